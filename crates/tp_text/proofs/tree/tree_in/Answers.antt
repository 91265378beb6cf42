use Rattle.std.proofs.Common.{◌≡◌, ℕ, ◌+◌, length, drop, List, Option, subst, sym, arith, rules, ◌∙◌}
use Rattle.std.proofs.lemmas.Result.{err_from_is_err_and}
use Rattle.std.specs.Prelude.{IfSome}
use Rattle.tp_text.specs.Lexemes.{Lexeme}
use Rattle.tp_text.specs.Tokens.{ComesFirst}
use Rattle.tp_text.specs.Trees.{built, IsDeep, IsReadTo}
use Rattle.tp_text.specs.declared.lexing.Next.{Next}
use Rattle.tp_text.proofs.OnDepth.{deep_more, nested, not_deep}
use Rattle.tp_text.proofs.OnReading.{read_none, read_more, stuck_refused, ok_from, built_none}
use Rattle.tp_text.proofs.tree.tree_in.Goals as goal

pub lexemes-init : goal.lexemes-init
lexemes-init c =
    let none = built_none (record { outer = c.new-outer.result; items = c.new-items.result }) c.new-outer.ensures.items c.new-items.ensures.items in
    record {
      place = omega arith;
      there = c.as_bytes-rest.ensures.value;
      so_far = subst (λ (bs : List ℕ). IsReadTo c.args.text.now (built (record { outer = c.new-outer.result; items = c.new-items.result })) 0 bs) (sym c.as_bytes-rest.ensures.value) (read_none c.args.text.now _ none);
      shallow = subst (λ (ms : List Lexeme). ¬ (IsDeep ms)) (sym none) not_deep;
      one = search rules;
    }

pub returns-in_err-go_on-clause-refused : goal.returns-in_err-go_on-clause-refused
returns-in_err-go_on-clause-refused c =
    let p = err_from_is_err_and c.from_residual-in_err-go_on.result c.from_residual-in_err-go_on.ensures.1 in
    rw (p.1, p.2) (stuck_refused c.args.text.now (built c.lexemes.builder) c.lexemes.at c.lexemes.rest.now c.in-Some.next c.in_err-go_on.field-0.0 c.lexemes.invariant.so_far
    (subst (ComesFirst c.lexemes.at c.lexemes.rest.now) c.in-Some.is c.in_ok-next.ensures.first) c.in_err-go_on.ensures.refused)

pub lexemes-preserved : goal.lexemes-preserved
lexemes-preserved c =
    let at = c.lexemes.at in
    let rest = c.lexemes.rest.now in
    record {
      place = subst (λ (o : Option Next). IfSome o (λ n. n.at + length n.rest.now ≡ at + length rest)) c.in-Some.is c.in_ok-next.ensures.place ∙ c.lexemes.invariant.place;
      there = subst (λ (o : Option Next). IfSome o (λ n. n.rest.now ≡ drop n.at c.args.text.now)) c.in-Some.is c.in_ok-next.ensures.there;
      so_far = read_more c.args.text.now (built c.lexemes.builder) _ at rest c.in-Some.next c.lexemes.invariant.so_far (subst (ComesFirst at rest) c.in-Some.is c.in_ok-next.ensures.first) c.in_ok-go_on.ensures.ok;
      shallow = subst (λ (ms : List Lexeme). ¬ (IsDeep ms)) (sym c.in_ok-go_on.ensures.ok) (deep_more (built c.lexemes.builder) _ c.in_ok-go_on.ensures.room c.lexemes.invariant.shallow);
      one = c.in_ok-go_on.ensures.one;
    }

pub returns-clause-nested : goal.returns-clause-nested
returns-clause-nested c = nested c.finish.result (built c.lexemes.builder) c.finish.ensures.found (ok_from c.finish.result c.lexemes.invariant.shallow)
