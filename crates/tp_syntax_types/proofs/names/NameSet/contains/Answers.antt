use Rattle.std.proofs.Common.{ℕ, List, Bor, ap, ◌∙◌}
use Rattle.tp_syntax_types.specs.Among.{has_mark}
use Rattle.tp_syntax_types.proofs.OnNames.{is_among}
use Rattle.tp_syntax_types.proofs.names.NameSet.contains.Goals as goal

pub returns : goal.returns
returns c =
    c.contains_key.ensures
    ∙ is_among c.self.inside.places c.self.inside.names.items c.self.invariant c.args.name.now
    ∙ ap (λ (ks : List (Bor (List ℕ))). has_mark ks c.args.name.now) c.self.view_is
