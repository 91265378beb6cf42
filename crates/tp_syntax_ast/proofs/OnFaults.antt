use Rattle.std.proofs.Common.{◌≡◌, Option, None}
use Rattle.tp_syntax_ast.specs.Gives.{Fails}
use Rattle.tp_syntax_ast.specs.declared.fault.SyntaxFault.{SyntaxFault}
use Rattle.tp_syntax_ast.specs.declared.fault.SyntaxFault.TheVariants as faults

-- a fault of a part is one of the whole, where nothing is spelled without the part
pub fails_from : {A B : Type 0} (e : SyntaxFault) (o : Option A) (p : Option B) → (o ≡ None → p ≡ None) → Fails e o → Fails e p
fails_from faults.Memory o p step h = tt
fails_from (faults.Text t) o p step h = step h
fails_from (faults.Shape at) o p step h = step h
fails_from (faults.Unknown at) o p step h = step h
fails_from (faults.Twice at) o p step h = step h
fails_from (faults.Types at) o p step h = step h
fails_from (faults.LeftOut at part) o p step h = step h
