-- The fields of an action, by their keys.
use Rattle.std.proofs.Common.{◌≡◌, List, map, false, Option, option_map, refl, sym, Bor}
use Rattle.tp_text.specs.Shapes.{Shape}
use Rattle.tp_text.specs.Trees.{shape_of}
use Rattle.tp_text.specs.declared.tree.Tree.{Tree}
use Rattle.tp_syntax_ast.specs.Actions.{key_number, field, each_once}
use Rattle.tp_syntax_ast.specs.declared.words.Key.{Key}
use Rattle.tp_syntax.specs.Fields.{field_view}
use Rattle.tp_syntax.specs.KeyedParts as keyed
use Rattle.tp_syntax.specs.KeyedParts.{with_kind, first}
use Rattle.tp_syntax.specs.declared.keyed.Keyed.{Keyed}
use Rattle.tp_syntax.proofs.OnKeyed.{found, once_seen}

abbrev seen : Bor Tree → Shape
seen b = shape_of b.now

pub field_found : (k : Key) (fs : List (Keyed Key (Bor Tree))) (o : Option (Keyed Key (Bor Tree))) → option_map (λ f. f.body) o ≡ first key_number k (map with_kind fs) → option_map (λ f. shape_of f.body.now) o ≡ field k (map field_view fs)
field_found = found seen field_view key_number field (λ k. refl) (λ k f vs. refl)

pub fields_once : (fs : List (Keyed Key (Bor Tree))) → each_once (map field_view fs) ≡ keyed.each_once key_number (λ _. false) (map with_kind fs)
fields_once fs = sym (once_seen seen field_view key_number field (λ k. refl) (λ k f vs. refl) (λ _. false) each_once refl (λ f vs. refl) fs)
