-- What a refusal of one step means for those that follow.
use Rattle.std.proofs.Common.{◌≡◌, List, [], ◌∷◌, ◌++◌, append_assoc, Option, Some, None, option_map, Result, refl, sym, ap, subst}
use Rattle.tp_syntax_ast.specs.Gives.{◌>>=◌, Fails, Gives, with_front}
use Rattle.tp_syntax_ast.specs.declared.fault.SyntaxFault.{SyntaxFault}
use Rattle.tp_syntax_ast.specs.declared.fault.SyntaxFault.TheVariants as faults

-- a fault other than out of memory says that nothing is spelled
pub fails_with : {A : Type 0} (e : SyntaxFault) (o : Option A) → o ≡ None → Fails e o
fails_with faults.Memory o h = tt
fails_with (faults.Text t) o h = h
fails_with (faults.Shape at) o h = h
fails_with (faults.Unknown at) o h = h
fails_with (faults.Twice at) o h = h
fails_with (faults.Types at) o h = h
fails_with (faults.LeftOut at part) o h = h

pub fails_bind : {A B : Type 0} (e : SyntaxFault) (o : Option A) (f : A → Option B) → Fails e o → Fails e (o >>= f)
fails_bind faults.Memory o f h = tt
fails_bind (faults.Text t) o f h = ap (λ p. p >>= f) h
fails_bind (faults.Shape at) o f h = ap (λ p. p >>= f) h
fails_bind (faults.Unknown at) o f h = ap (λ p. p >>= f) h
fails_bind (faults.Twice at) o f h = ap (λ p. p >>= f) h
fails_bind (faults.Types at) o f h = ap (λ p. p >>= f) h
fails_bind (faults.LeftOut at part) o f h = ap (λ p. p >>= f) h

pub fails_map : {A B : Type 0} (f : A → B) (e : SyntaxFault) (o : Option A) → Fails e o → Fails e (option_map f o)
fails_map f faults.Memory o h = tt
fails_map f (faults.Text t) o h = ap (option_map f) h
fails_map f (faults.Shape at) o h = ap (option_map f) h
fails_map f (faults.Unknown at) o h = ap (option_map f) h
fails_map f (faults.Twice at) o h = ap (option_map f) h
fails_map f (faults.Types at) o h = ap (option_map f) h
fails_map f (faults.LeftOut at part) o h = ap (option_map f) h

-- the same reading in other words
pub fails_same : {A : Type 0} (e : SyntaxFault) (a b : Option A) → a ≡ b → Fails e b → Fails e a
fails_same e a b is h = subst (λ o. Fails e o) (sym is) h

pub gives_same : {X Y : Type 0} (view : X → Y) (r : Result X SyntaxFault) (a b : Option Y) → a ≡ b → Gives view r b → Gives view r a
gives_same view r a b e h = subst (λ o. Gives view r o) (sym e) h

pub bind_bind : {A B C : Type 0} (o : Option A) (f : A → Option B) (g : B → Option C) → ((o >>= f) >>= g) ≡ (o >>= λ x. f x >>= g)
bind_bind None f g = refl
bind_bind (Some x) f g = refl

pub joins_front : {A : Type 0} (front : List A) (x : A) (rest : Option (List A)) → with_front front (option_map (λ xs. x ∷ xs) rest) ≡ with_front (front ++ x ∷ []) rest
joins_front front x None = refl
joins_front front x (Some xs) = ap Some (sym (append_assoc front (x ∷ []) xs))

pub keeps_front : {A : Type 0} (rest : Option (List A)) → with_front [] rest ≡ rest
keeps_front None = refl
keeps_front (Some xs) = refl
