use Rattle.std.proofs.Common.{◌≡◌, ℕ, Bool, List, sym, ◌∙◌}
use Rattle.std.specs.Prelude.{IsTrue, ◌↔◌}
use Rattle.std.specs.Str.{bytes_eq}
use Rattle.std.proofs.lemmas.Slice.Eq.{bytes_eq-Decides}
use Rattle.std.proofs.lemmas.Bool.Decides.{same_from_decides}
use Rattle.tp_syntax_ast.specs.Words.{lower, IsLower}

-- the test that ignores case is the test of the words in lower case
pub same_word : (r : Bool) (word name : List ℕ) → IsLower name → (IsTrue r ↔ (lower word ≡ lower name)) → r ≡ bytes_eq (lower word) name
same_word r word name is_lower test =
    let d = bytes_eq-Decides (lower word) name in
    same_from_decides {P = lower word ≡ name} r (bytes_eq (lower word) name) (λ e. test.0 e ∙ is_lower, λ e. test.1 (e ∙ sym is_lower)) d
