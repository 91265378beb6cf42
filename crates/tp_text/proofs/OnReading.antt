-- A text that is read token by token.
use Rattle.std.proofs.Common.{◌≡◌, ℕ, List, [], ◌∷◌, ◌++◌, Result, Ok, Err, refl, sym, ap, ◌∙◌, append_assoc, append-nil, inl, inr}
use Rattle.std.proofs.lemmas.List.{map-append}
use Rattle.std.specs.Prelude.{OnOk}
use Rattle.tp_text.specs.Lexemes.{Lexeme, Placed, Lexemes, placed, with_front, before}
use Rattle.tp_text.specs.Shapes.{Shape, written, lexemes_only, Spells}
use Rattle.tp_text.specs.Tokens.{lexeme_of, placed_of, IsBad}
use Rattle.tp_text.specs.Trees.{frames_written, trees_written, built, HasNoTree, IsRefused, IsStuck, IsReadTo}
use Rattle.tp_text.specs.declared.fault.TextFault.{TextFault}
use Rattle.tp_text.specs.declared.fault.TextFault.TheVariants as faults
use Rattle.tp_text.specs.declared.lexing.Next.{Next}
use Rattle.tp_text.specs.declared.tree.Builder.{Builder}
use Rattle.tp_text.specs.declared.tree.Frame.{Frame}
use Rattle.tp_text.proofs.OnTrees.{refused_for_all}

no_front : (r : Lexemes) → with_front [] r ≡ r
no_front (Ok ps) = refl
no_front (Err at) = refl

with_front_more : (ps : List Placed) (p : Placed) (r : Lexemes) → with_front (ps ++ p ∷ []) r ≡ with_front ps (before p r)
with_front_more ps p (Ok qs) = ap (λ (all : List Placed). Ok all) (append_assoc ps (p ∷ []) qs)
with_front_more ps p (Err at) = refl

-- bytes behind tokens are those that begin at a place
abbrev pub IsBehind : ℕ → List ℕ → ℕ → List ℕ → Type 0
IsBehind start bytes at rest = (ps : List Placed) × (with_front ps (placed at rest) ≡ placed start bytes)

pub behind_none : (start : ℕ) (bytes : List ℕ) → IsBehind start bytes start bytes
behind_none start bytes = ([], no_front (placed start bytes))

pub behind_more : (start : ℕ) (bytes : List ℕ) (at : ℕ) (rest : List ℕ) (n : Next) → IsBehind start bytes at rest → placed at rest ≡ before (placed_of n.token) (placed n.at n.rest.now) → IsBehind start bytes n.at n.rest.now
behind_more start bytes at rest n h first = (
  h.0 ++ placed_of n.token ∷ [],
  with_front_more h.0 (placed_of n.token) (placed n.at n.rest.now) ∙ ap (with_front h.0) (sym first) ∙ h.1,
)

pub behind_all : (start : ℕ) (bytes : List ℕ) (at : ℕ) (rest : List ℕ) → IsBehind start bytes at rest → placed at rest ≡ Ok [] → (ps : List Placed) × (placed start bytes ≡ Ok ps)
behind_all start bytes at rest h none = (h.0, sym h.1 ∙ ap (with_front h.0) none ∙ ap (λ (ps : List Placed). Ok ps) (append-nil h.0))

pub bad_behind : (start : ℕ) (bytes : List ℕ) (at : ℕ) (rest : List ℕ) (e : TextFault) → IsBehind start bytes at rest → IsBad at rest e → IsBad start bytes e
bad_behind start bytes at rest faults.Memory h bad = absurd bad
bad_behind start bytes at rest faults.TooLong h bad = absurd bad
bad_behind start bytes at rest (faults.BadByte k) h bad = sym h.1 ∙ ap (with_front h.0) bad
bad_behind start bytes at rest (faults.Unclosed k) h bad = absurd bad
bad_behind start bytes at rest (faults.Extra k) h bad = absurd bad
bad_behind start bytes at rest (faults.Depth k) h bad = absurd bad
bad_behind start bytes at rest faults.Empty h bad = absurd bad

-- ---- the lexemes so far

pub built_none : (b : Builder) → b.outer.items ≡ [] → b.items.items ≡ [] → built b ≡ []
built_none b no_frames no_trees = ap (λ (fs : List Frame). frames_written fs ++ trees_written b.items.items) no_frames ∙ ap trees_written no_trees

pub read_none : (text : List ℕ) (ms : List Lexeme) → ms ≡ [] → IsReadTo text ms 0 text
read_none text ms none = ([], sym none, no_front (placed 0 text))

pub read_more : (text : List ℕ) (ms new : List Lexeme) (at : ℕ) (rest : List ℕ) (n : Next) → IsReadTo text ms at rest → placed at rest ≡ before (placed_of n.token) (placed n.at n.rest.now) → new ≡ ms ++ lexeme_of n.token.text.now ∷ [] → IsReadTo text new n.at n.rest.now
read_more text ms new at rest n h first grown = (
  h.0 ++ placed_of n.token ∷ [],
  map-append (λ (p : Placed). p.lexeme) h.0 (placed_of n.token ∷ []) ∙ ap (λ (ls : List Lexeme). ls ++ lexeme_of n.token.text.now ∷ []) h.1 ∙ sym grown,
  with_front_more h.0 (placed_of n.token) (placed n.at n.rest.now) ∙ ap (with_front h.0) (sym first) ∙ h.2,
)

pub read_all : (text : List ℕ) (ms : List Lexeme) (at : ℕ) (rest : List ℕ) → IsReadTo text ms at rest → placed at rest ≡ Ok [] → (ps : List Placed) × (placed 0 text ≡ Ok ps) × (lexemes_only ps ≡ ms)
read_all text ms at rest h none = (h.0, sym h.2 ∙ ap (with_front h.0) none ∙ ap (λ (ps : List Placed). Ok ps) (append-nil h.0), h.1)

-- ---- what is refused

spells_lexemes : (text : List ℕ) (ps : List Placed) (s : Shape) → placed 0 text ≡ Ok ps → Spells text s → written s ≡ lexemes_only ps
spells_lexemes text ps s is spells =
    let same = sym is ∙ spells.1 in
    let qs : ps ≡ spells.0 = cc in
    sym spells.2 ∙ sym (ap lexemes_only qs)

pub refused_by : (text : List ℕ) (ps : List Placed) (e : TextFault) → placed 0 text ≡ Ok ps → HasNoTree (lexemes_only ps) e → IsRefused text e
refused_by text ps faults.Memory is h = tt
refused_by text ps faults.TooLong is h = absurd h
refused_by text ps (faults.BadByte at) is h = absurd h
refused_by text ps (faults.Unclosed at) is h = λ s spells. h s (spells_lexemes text ps s is spells)
refused_by text ps (faults.Extra at) is h = λ s spells. h s (spells_lexemes text ps s is spells)
refused_by text ps (faults.Depth at) is h = (ps, is, h)
refused_by text ps faults.Empty is h = λ s spells. h s (spells_lexemes text ps s is spells)

bad_refused : (text : List ℕ) (e : TextFault) → IsBad 0 text e → IsRefused text e
bad_refused text faults.Memory bad = absurd bad
bad_refused text faults.TooLong bad = absurd bad
bad_refused text (faults.BadByte k) bad = λ s spells. let same = sym bad ∙ spells.1 in absurd cc
bad_refused text (faults.Unclosed k) bad = absurd bad
bad_refused text (faults.Extra k) bad = absurd bad
bad_refused text (faults.Depth k) bad = absurd bad
bad_refused text faults.Empty bad = absurd bad

-- a byte that is left may not stand there
pub bad_left : (text : List ℕ) (ms : List Lexeme) (at : ℕ) (rest : List ℕ) (e : TextFault) → IsReadTo text ms at rest → IsBad at rest e → IsRefused text e
bad_left text ms at rest e h bad = bad_refused text e (bad_behind 0 text at rest e (h.0, h.2) bad)

-- the next token can't be read on, or a byte behind it may not stand there
pub stuck_refused : (text : List ℕ) (ms : List Lexeme) (at : ℕ) (rest : List ℕ) (n : Next) (e : TextFault) → IsReadTo text ms at rest → placed at rest ≡ before (placed_of n.token) (placed n.at n.rest.now) → IsStuck ms n e → IsRefused text e
stuck_refused text ms at rest n e h first (inl bad) = bad_left text _ n.at n.rest.now e (read_more text ms _ at rest n h first refl) bad
stuck_refused text ms at rest n e h first (inr stuck) =
    let ps = h.0 ++ placed_of n.token ∷ stuck.1.0 in
    let is : placed 0 text ≡ Ok ps = sym h.2 ∙ ap (with_front h.0) (first ∙ ap (before (placed_of n.token)) stuck.1.1) in
    let only : lexemes_only ps ≡ ms ++ lexeme_of n.token.text.now ∷ lexemes_only stuck.1.0 =
    map-append (λ (p : Placed). p.lexeme) h.0 (placed_of n.token ∷ stuck.1.0) ∙ ap (λ (ls : List Lexeme). ls ++ lexeme_of n.token.text.now ∷ lexemes_only stuck.1.0) h.1 in
    refused_by text ps e is (refused_for_all ms (lexemes_only stuck.1.0) (lexeme_of n.token.text.now) (lexemes_only ps) e (sym only) stuck.0)

-- ---- what is found

pub spelled_by : (text : List ℕ) (ms : List Lexeme) (s : Shape) → ((ps : List Placed) × (placed 0 text ≡ Ok ps) × (lexemes_only ps ≡ ms)) → written s ≡ ms → Spells text s
spelled_by text ms s all w = (all.0, all.1, all.2 ∙ sym w)

pub ok_from : {X Y P : Type 0} (r : Result X Y) → P → OnOk r P
ok_from (Ok x) h = h
ok_from (Err y) h = tt
