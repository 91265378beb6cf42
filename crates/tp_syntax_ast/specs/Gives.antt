-- What a reader answers, beside what the grammar has there. Which of several faults is answered stays open.
use Rattle.std.specs.Prelude.{◌≡◌, List, ◌++◌, Bool, if◌then◌else◌, option_map, Option, Some, None, Result, Ok, Err}
use Rattle.tp_syntax_ast.specs.declared.fault.SyntaxFault.{SyntaxFault}
use Rattle.tp_syntax_ast.specs.declared.fault.SyntaxFault.TheVariants as faults

infixl 10 ◌>>=◌
abbrev pub ◌>>=◌ : {A B : Type 0} → Option A → (A → Option B) → Option B
(Some x) >>= f = f x
None >>= f = None

abbrev pub provided : {A : Type 0} → Bool → A → Option A
provided b x = if b then Some x else None

-- out of memory says nothing
abbrev pub Fails : {Y : Type 0} → SyntaxFault → Option Y → Type 0
Fails faults.Memory read = Unit {0}
Fails _ read = read ≡ None

-- out of memory stays what it is
abbrev pub IsKept : SyntaxFault → SyntaxFault → Type 0
IsKept faults.Memory e = e ≡ faults.Memory
IsKept _ e = Unit {0}

-- What a function returned, seen by view, is what the grammar has.
abbrev pub Gives : {X Y : Type 0} → (X → Y) → Result X SyntaxFault → Option Y → Type 0
Gives view (Ok x) read = read ≡ Some (view x)
Gives view (Err e) read = Fails e read

-- what stands before those of the rest
abbrev pub with_front : {A : Type 0} → List A → Option (List A) → Option (List A)
with_front front rest = option_map (λ more. front ++ more) rest
