-- What may be named inside another scope.
use Rattle.std.proofs.Common.{◌≡◌, zero, suc, List, ◌∷◌, ◌++◌, map, Option, Bor, sym, ap, subst, ◌∙◌, rules, arith}
use Rattle.std.specs.List.{All}
use Rattle.tp_syntax_ast.specs.Symbols.{Name, Symbols, typed_view, types_of}
use Rattle.tp_syntax_scope.specs.Bound.{Bound}
use Rattle.tp_syntax_scope.specs.LevelViews.{levels_view, under, AreOver}
use Rattle.tp_syntax_scope.specs.declared.levels.Levels.{Levels, Inner, the_lemmas}
use Rattle.tp_syntax_scope.proofs.OnSymbols.{or_else, types_of-append}

pub levels_Inner : (vars : Bor Bound) (outer : Bor Levels) → levels_view (Inner vars outer) ≡ map typed_view vars.now.items ++ levels_view outer.now
levels_Inner vars outer = search (rules, the_lemmas)

under_Inner : (vars : Bor Bound) (outer : Bor Levels) → under (Inner vars outer) ≡ vars.now.symbols ∷ under outer.now
under_Inner vars outer = search (rules, the_lemmas)

pub in_levels : (n : Name) (s : Levels) (vars : Bor Bound) (outer : Bor Levels) (o : Option (List Name)) → s ≡ Inner vars outer → o ≡ types_of n (map typed_view vars.now.items) → types_of n (levels_view s) ≡ or_else o (types_of n (levels_view outer.now))
in_levels n s vars outer o is found =
    ap (λ (t : Levels). types_of n (levels_view t)) is
    ∙ ap (types_of n) (levels_Inner vars outer)
    ∙ types_of-append n (map typed_view vars.now.items) (levels_view outer.now)
    ∙ ap (λ p. or_else p (types_of n (levels_view outer.now))) (sym found)

-- ---- variables over what is declared

module _ {X : Type 0} (P : X → Type 0) (x : X) (xs : List X) where
  all_cons : P x → All P xs → All P (x ∷ xs)
  all_cons first others zero d lt = first
  all_cons first others (suc k) d lt = others k d (omega (lt, arith))

  all_head : All P (x ∷ xs) → P x
  all_head all = all 0 x (omega arith)

  all_tail : All P (x ∷ xs) → All P xs
  all_tail all k d lt = all (suc k) d (omega (lt, arith))

pub over_inside : (σ : Symbols) (vars : Bor Bound) (outer : Bor Levels) → vars.now.symbols ≡ σ → AreOver σ outer.now → AreOver σ (Inner vars outer)
over_inside σ vars outer same over = subst (All (λ τ. τ ≡ σ)) (sym (under_Inner vars outer)) (all_cons (λ τ. τ ≡ σ) vars.now.symbols (under outer.now) same over)

module _ (σ : Symbols) (levels : Levels) (vars : Bor Bound) (outer : Bor Levels) (is : levels ≡ Inner vars outer) (over : AreOver σ levels) where
  both : All (λ τ. τ ≡ σ) (vars.now.symbols ∷ under outer.now)
  both = subst (All (λ τ. τ ≡ σ)) (ap under is ∙ under_Inner vars outer) over

  pub over_these : vars.now.symbols ≡ σ
  over_these = all_head (λ τ. τ ≡ σ) vars.now.symbols (under outer.now) both

  pub over_outer : AreOver σ outer.now
  over_outer = all_tail (λ τ. τ ≡ σ) vars.now.symbols (under outer.now) both
