-- The form of lexemes, and the lexemes that a form writes.
use Rattle.std.proofs.Common.{◌≡◌, ℕ, Bool, true, false, cond, eqb, List, [], ◌∷◌, ◌++◌, map, refl, ap, ◌∙◌, Option, Some, None, option_map}
use Rattle.std.specs.Option.{option_and_then}
use Rattle.std.proofs.lemmas.Bool.{eqb-true}
use Rattle.tp_plan_text.specs.PlanLexemes.{Lexeme, word, sign, is_bare, word_first, sign_first}
use Rattle.tp_plan_text.specs.PlanForms.{Form, written, bracketed, head_of, words_of, with_word, bracket_of, end_of, form_of, FormsAreWritten}

-- what was there where something came of it
then_back : {T U : Type 0} (f : T → Option U) (o : Option T) (y : U) → option_and_then f o ≡ Some y → (x : T) × (o ≡ Some x) × (f x ≡ Some y)
then_back f None y h = absurd (let no : ⊥ = cc in no)
then_back f (Some x) y h = (x, refl, h)

map_back : {T U : Type 0} (f : T → U) (o : Option T) (y : U) → option_map f o ≡ Some y → (x : T) × (o ≡ Some x) × (f x ≡ y)
map_back f None y h = absurd (let no : ⊥ = cc in no)
map_back f (Some x) y h = (x, refl, (let e : f x ≡ y = cc in e))

if_back : {T : Type 0} (t : Bool) (x y : T) → cond t (Some x) None ≡ Some y → (t ≡ true) × (x ≡ y)
if_back true x y h = (refl, (let e : x ≡ y = cc in e))
if_back false x y h = absurd (let no : ⊥ = cc in no)

word_back : (ms : List Lexeme) (p : List ℕ × List Lexeme) → word_first ms ≡ Some p → ms ≡ word p.0 ∷ p.1
word_back [] p h = absurd (let no : ⊥ = cc in no)
word_back (word w ∷ ms) p h = let e : (w, ms) ≡ p = cc in ap (λ (q : List ℕ × List Lexeme). word q.0 ∷ q.1) e
word_back (sign b ∷ ms) p h = absurd (let no : ⊥ = cc in no)

sign_back : (wanted : ℕ) (ms rest : List Lexeme) → sign_first wanted ms ≡ Some rest → ms ≡ sign wanted ∷ rest
sign_back wanted [] rest h = absurd (let no : ⊥ = cc in no)
sign_back wanted (word w ∷ ms) rest h = absurd (let no : ⊥ = cc in no)
sign_back wanted (sign b ∷ ms) rest h =
    let p = if_back (eqb b wanted) ms rest h in
    ap (λ c. sign c ∷ ms) (eqb-true b wanted p.0) ∙ ap (λ r. sign wanted ∷ r) p.1

with_back : (w : List ℕ) (o : Option (List (List ℕ) × List Lexeme)) (p : List (List ℕ) × List Lexeme) → with_word w o ≡ Some p → (q : List (List ℕ) × List Lexeme) × (o ≡ Some q) × ((w ∷ q.0, q.1) ≡ p)
with_back w None p h = absurd (let no : ⊥ = cc in no)
with_back w (Some q) p h = (q, refl, (let e : (w ∷ q.0, q.1) ≡ p = cc in e))

words_back : (ms : List Lexeme) (p : List (List ℕ) × List Lexeme) → words_of ms ≡ Some p → ms ≡ map word p.0 ++ (sign 41 ∷ p.1)
words_back [] p h = absurd (let no : ⊥ = cc in no)
words_back (word w ∷ ms) p h =
    let q = with_back w (words_of ms) p h in
    ap (λ r. word w ∷ r) (words_back ms q.0 q.1) ∙ ap (λ (r : List (List ℕ) × List Lexeme). map word r.0 ++ (sign 41 ∷ r.1)) q.2
words_back (sign b ∷ ms) p h =
    let q = if_back (eqb b 41) ([], ms) p h in
    ap (λ c. sign c ∷ ms) (eqb-true b 41 q.0) ∙ ap (λ (r : List (List ℕ) × List Lexeme). map word r.0 ++ (sign 41 ∷ r.1)) q.1

head_back : (ms : List Lexeme) (h : List ℕ × List Lexeme) → head_of ms ≡ Some h → ms ≡ word h.0 ∷ sign 58 ∷ sign 40 ∷ h.1
head_back ms h is =
    let t = then_back (λ (t : List ℕ × List Lexeme). option_and_then (λ (a : List Lexeme). option_map (λ (b : List Lexeme). (t.0, b)) (sign_first 40 a)) (sign_first 58 t.1)) (word_first ms) h is in
    let a = then_back (λ (a : List Lexeme). option_map (λ (b : List Lexeme). (t.0.0, b)) (sign_first 40 a)) (sign_first 58 t.0.1) h t.2 in
    let b = map_back (λ (b : List Lexeme). (t.0.0, b)) (sign_first 40 a.0) h a.2 in
    word_back ms t.0 t.1
    ∙ ap (λ r. word t.0.0 ∷ r) (sign_back 58 t.0.1 a.0 a.1 ∙ ap (λ r. sign 58 ∷ r) (sign_back 40 a.0 b.0 b.1))
    ∙ ap (λ (r : List ℕ × List Lexeme). word r.0 ∷ sign 58 ∷ sign 40 ∷ r.1) b.2

bare_back : (ms : List Lexeme) → is_bare ms ≡ true → ms ≡ []
bare_back [] h = refl
bare_back (m ∷ ms) h = absurd (let no : ⊥ = cc in no)

bracket_back : (ms : List Lexeme) (d : List ℕ) → bracket_of ms ≡ Some d → ms ≡ bracketed (Some d)
bracket_back ms d is =
    let a = then_back (λ (a : List Lexeme). option_and_then (λ (e : List ℕ × List Lexeme). option_and_then (λ (b : List Lexeme). cond (is_bare b) (Some e.0) None) (sign_first 93 e.1)) (word_first a)) (sign_first 91 ms) d is in
    let e = then_back (λ (e : List ℕ × List Lexeme). option_and_then (λ (b : List Lexeme). cond (is_bare b) (Some e.0) None) (sign_first 93 e.1)) (word_first a.0) d a.2 in
    let b = then_back (λ (b : List Lexeme). cond (is_bare b) (Some e.0.0) None) (sign_first 93 e.0.1) d e.2 in
    let last = if_back (is_bare b.0) e.0.0 d b.2 in
    sign_back 91 ms a.0 a.1
    ∙ ap (λ r. sign 91 ∷ r) (word_back a.0 e.0 e.1)
    ∙ ap (λ r. sign 91 ∷ word e.0.0 ∷ r) (sign_back 93 e.0.1 b.0 b.1 ∙ ap (λ r. sign 93 ∷ r) (bare_back b.0 last.0))
    ∙ ap (λ w. sign 91 ∷ word w ∷ sign 93 ∷ []) last.1

ended : (ms : List Lexeme) (t : Bool) (d : Option (List ℕ)) → is_bare ms ≡ t → cond t (Some None) (option_map Some (bracket_of ms)) ≡ Some d → ms ≡ bracketed d
ended ms true d bare h = let e : None ≡ d = cc in bare_back ms bare ∙ ap bracketed e
ended ms false d bare h = let p = map_back Some (bracket_of ms) d h in bracket_back ms p.0 p.1 ∙ ap bracketed p.2

form_back : (ms : List Lexeme) (f : Form) → form_of ms ≡ Some f → ms ≡ written f
form_back ms f is =
    let h = then_back (λ (h : List ℕ × List Lexeme). option_and_then (λ (w : List (List ℕ) × List Lexeme). option_map (λ (d : Option (List ℕ)). let g : Form = record { time = h.0; words = w.0; duration = d } in g) (end_of w.1)) (words_of h.1)) (head_of ms) f is in
    let w = then_back (λ (w : List (List ℕ) × List Lexeme). option_map (λ (d : Option (List ℕ)). let g : Form = record { time = h.0.0; words = w.0; duration = d } in g) (end_of w.1)) (words_of h.0.1) f h.2 in
    let d = map_back (λ (d : Option (List ℕ)). let g : Form = record { time = h.0.0; words = w.0.0; duration = d } in g) (end_of w.0.1) f w.2 in
    head_back ms h.0 h.1
    ∙ ap (λ r. word h.0.0 ∷ sign 58 ∷ sign 40 ∷ r) (words_back h.0.1 w.0 w.1 ∙ ap (λ r. map word w.0.0 ++ (sign 41 ∷ r)) (ended w.0.1 (is_bare w.0.1) d.0 refl d.1))
    ∙ ap written d.2

words_read : (ws : List (List ℕ)) (rest : List Lexeme) → words_of (map word ws ++ (sign 41 ∷ rest)) ≡ Some (ws, rest)
words_read [] rest = refl
words_read (w ∷ ws) rest = ap (with_word w) (words_read ws rest)

end_read : (d : Option (List ℕ)) → end_of (bracketed d) ≡ Some d
end_read None = refl
end_read (Some d) = refl

-- the lexemes that a form writes are those of that form
pub form_read : (f : Form) → form_of (written f) ≡ Some f
form_read f =
    ap (option_and_then (λ (w : List (List ℕ) × List Lexeme). option_map (λ (d : Option (List ℕ)). record { time = f.time; words = w.0; duration = d }) (end_of w.1))) (words_read f.words (bracketed f.duration))
    ∙ ap (option_map (λ (d : Option (List ℕ)). record { time = f.time; words = f.words; duration = d })) (end_read f.duration)

pub forms_written : FormsAreWritten
forms_written ms f = (form_back ms f, λ is. ap form_of is ∙ form_read f)
