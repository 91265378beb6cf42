-- One text of an answer leads to one state, and so the same lines of pairs are one run.
use Rattle.std.proofs.Common.{◌≡◌, ◌⊎◌, inl, inr, ℕ, true, false, List, [], ◌∷◌, ◌++◌, Option, Some, None, MatchOption, refl, ap, sym, subst, ◌∙◌, flat_map, append_assoc, codes, decimal}
use Rattle.std.proofs.lemmas.List.{append_cancel_left}
use Rattle.std.proofs.lemmas.List.Elements.{All-nil, All-cons, All-append}
use Rattle.tp_exec_machine.specs.declared.command.Command.{Command}
use Rattle.tp_exec_machine.specs.declared.command.Answer.{Answer}
use Rattle.tp_exec_machine.specs.declared.command.Answer.TheVariants.{Accepted, Named, Told as Shown, Reported, Refused}
use Rattle.tp_exec_machine.specs.declared.refusal.Refusal.{Refusal}
use Rattle.tp_exec_machine.specs.Machine.{Machine}
use Rattle.tp_exec_machine.specs.Step.{Step, Decides, first_refusal, accepted}
use Rattle.tp_script.specs.Reading.{Free}
use Rattle.tp_script.specs.Transcript.{answer_text}
use Rattle.tp_journal_pairs.specs.Edges.{begins}
use Rattle.tp_journal_pairs.specs.Journal.{Entry, IsHead, Runs, head_of, head_lines, question_line, answer_line, pair_lines, journal_lines, text_of}
use Rattle.tp_journal.specs.Form.{version_of}
use Rattle.tp_journal.specs.Auditing.{DisallowsAt}
use Rattle.tp_journal.specs.Laws.{IsWithin}
use Rattle.tp_journal.proofs.Pairs.{no_mark, one_asked}
use Rattle.tp_journal.proofs.HeadForms.{version_back}
use Rattle.tp_journal.proofs.CleanTexts.{journal_free}
use Rattle.tp_journal.proofs.WholeLines.{lines_split, same_lines}

-- ---- one state

-- what was decided: the command was refused, or it was carried out, and the answer says which
record Refuted (m new : Machine) (a : Answer) : Type 0 where
  pub says : begins (codes "refused") (answer_text a) ≡ true
  pub stays : new ≡ m

record CarriedOut (m new : Machine) (c : Command) (a : Answer) : Type 0 where
  pub says : begins (codes "refused") (answer_text a) ≡ false
  pub goes : new ≡ accepted m c

outcome : (m new : Machine) (c : Command) (a : Answer) → Decides m c a new → Refuted m new a ⊎ CarriedOut m new c a
outcome m new c Accepted d = inr (record { says = refl; goes = d.2 })
outcome m new c (Named id) d = inr (record { says = refl; goes = d.2 })
outcome m new c (Shown low high) d = inr (record { says = refl; goes = d.2 })
outcome m new c (Reported r) d = inr (record { says = refl; goes = d.2 })
outcome m new c (Refused r) d = inl (record { says = refl; stays = d.1 })

apart : (a b : Answer) → answer_text a ≡ answer_text b → begins (codes "refused") (answer_text a) ≡ true → begins (codes "refused") (answer_text b) ≡ false → ⊥
apart a b same p q =
    let f : true ≡ false = sym p ∙ (ap (begins (codes "refused")) same ∙ q) in
    let g : ⊥ = cc in g

one_outcome : (m new other : Machine) (c : Command) (a b : Answer) → answer_text a ≡ answer_text b → Refuted m new a ⊎ CarriedOut m new c a → Refuted m other b ⊎ CarriedOut m other c b → new ≡ other
one_outcome m new other c a b same (inl x) (inl y) = x.stays ∙ sym y.stays
one_outcome m new other c a b same (inl x) (inr y) = absurd (apart a b same x.says y.says)
one_outcome m new other c a b same (inr x) (inl y) = absurd (apart b a (sym same) y.says x.says)
one_outcome m new other c a b same (inr x) (inr y) = x.goes ∙ sym y.goes

pub one_state : (m new other : Machine) (c : Command) (a b : Answer) → Step m c a new → Step m c b other → answer_text a ≡ answer_text b → new ≡ other
one_state m new other c a b p q same = by_refusal (first_refusal m c) p q
  where
    by_refusal : (o : Option Refusal) → MatchOption o (Decides m c a new) (λ r. (a ≡ Refused r) × (new ≡ m)) → MatchOption o (Decides m c b other) (λ r. (b ≡ Refused r) × (other ≡ m)) → new ≡ other
    by_refusal None d e = one_outcome m new other c a b same (outcome m new c a d) (outcome m other c b e)
    by_refusal (Some r) d e = d.1 ∙ sym e.1

-- ---- the same lines are one run

pub heads_same : {X : Type 0} (x y : X) (xs ys : List X) → x ∷ xs ≡ y ∷ ys → (x ≡ y) × (xs ≡ ys)
heads_same x y xs ys is =
    let a : x ≡ y = cc in
    let b : xs ≡ ys = cc in
    (a, b)

-- an entry that may stand next in the run
record IsNext (version : ℕ) (m : Machine) (question reply : List ℕ) : Type 0 where
  pub entry : Entry
  pub new : Machine
  pub runs : Runs version m (entry ∷ []) new
  pub asks : question ≡ question_line entry
  pub replies : reply ≡ answer_line entry

next_of : (version : ℕ) (old end : Machine) (e : Entry) (es : List Entry) (question reply : List ℕ) → Runs version old (e ∷ es) end → question ≡ question_line e → reply ≡ answer_line e → IsNext version old question reply
next_of version old end None es question reply runs asks replies = record { entry = None; new = old; runs = refl; asks = asks; replies = replies }
next_of version old end (Some p) es question reply runs asks replies =
    record { entry = Some p; new = runs.0; runs = (runs.0, runs.1, runs.2, runs.3, refl); asks = asks; replies = replies }

goes_with : (version : ℕ) (old m end : Machine) (es fs : List Entry) (question reply : List ℕ) (rest : List (List ℕ)) → Runs version old es m → Runs version old fs end → flat_map pair_lines es ++ question ∷ reply ∷ rest ≡ flat_map pair_lines fs → IsNext version m question reply
goes_with version old m end [] [] question reply rest runs whole is = absurd (let f : ⊥ = cc in f)
goes_with version old m end [] (f ∷ fs) question reply rest runs whole is =
    let a = heads_same question (question_line f) (reply ∷ rest) (answer_line f ∷ flat_map pair_lines fs) is in
    let b = heads_same reply (answer_line f) rest (flat_map pair_lines fs) a.1 in
    subst (λ x. IsNext version x question reply) (sym runs) (next_of version old end f fs question reply whole a.0 b.0)
goes_with version old m end (e ∷ es) [] question reply rest runs whole is = absurd (let f : ⊥ = cc in f)
goes_with version old m end (None ∷ es) (None ∷ fs) question reply rest runs whole is =
    let a = heads_same (question_line None) (question_line None) (answer_line None ∷ (flat_map pair_lines es ++ question ∷ reply ∷ rest)) (answer_line None ∷ flat_map pair_lines fs) is in
    let b = heads_same (answer_line None) (answer_line None) (flat_map pair_lines es ++ question ∷ reply ∷ rest) (flat_map pair_lines fs) a.1 in
    goes_with version old m end es fs question reply rest runs whole b.1
goes_with version old m end (None ∷ es) (Some q ∷ fs) question reply rest runs whole is =
    absurd (no_mark q.0 (heads_same (question_line None) (question_line (Some q)) (answer_line None ∷ (flat_map pair_lines es ++ question ∷ reply ∷ rest)) (answer_line (Some q) ∷ flat_map pair_lines fs) is).0)
goes_with version old m end (Some p ∷ es) (None ∷ fs) question reply rest runs whole is =
    absurd (no_mark p.0 (sym (heads_same (question_line (Some p)) (question_line None) (answer_line (Some p) ∷ (flat_map pair_lines es ++ question ∷ reply ∷ rest)) (answer_line None ∷ flat_map pair_lines fs) is).0))
goes_with version old m end (Some p ∷ es) (Some q ∷ fs) question reply rest runs whole is =
    let a = heads_same (question_line (Some p)) (question_line (Some q)) (answer_line (Some p) ∷ (flat_map pair_lines es ++ question ∷ reply ∷ rest)) (answer_line (Some q) ∷ flat_map pair_lines fs) is in
    let b = heads_same (answer_line (Some p)) (answer_line (Some q)) (flat_map pair_lines es ++ question ∷ reply ∷ rest) (flat_map pair_lines fs) a.1 in
    let command : q.0 ≡ p.0 = one_asked q.0 p.0 whole.1 runs.1 (sym a.0) in
    let text : answer_text p.1 ≡ answer_text q.1 = append_cancel_left (codes "< ") (answer_text p.1) (answer_text q.1) b.0 in
    let state : runs.0 ≡ whole.0 = one_state old runs.0 whole.0 p.0 p.1 q.1 runs.3 (subst (λ x. Step old x q.1 whole.0) command whole.3) text in
    goes_with version runs.0 m end es fs question reply rest runs.4 (subst (λ x. Runs version x fs end) (sym state) whole.4) b.1

-- ---- no answer of a whole journal is refused

pub one_version : (v : ℕ) (old : Machine) → IsHead (head_of v old) → codes "journal " ++ decimal 2 ≡ codes "journal " ++ decimal v → v ≡ 2
one_version v old is same =
    let two : Some 2 ≡ Some v = sym (version_back 2 (inr refl)) ∙ (ap version_of same ∙ version_back v is.version) in
    let f : v ≡ 2 = cc in f

abbrev pub first_of : List (List ℕ) → List ℕ
first_of [] = []
first_of (line ∷ lines) = line

same_first : (v : ℕ) (old : Machine) (es entries : List Entry) (more rest : List (List ℕ)) → journal_lines 2 old entries ≡ (journal_lines v old es ++ more) ++ rest → codes "journal " ++ decimal 2 ≡ codes "journal " ++ decimal v
same_first v old es entries more rest is = ap first_of is

next_in : (v : ℕ) (old mid new : Machine) (es entries : List Entry) (question reply : List ℕ) (rest : List (List ℕ)) → v ≡ 2 → Runs v old es mid → Runs 2 old entries new → journal_lines 2 old entries ≡ (journal_lines v old es ++ question ∷ reply ∷ []) ++ rest → IsNext v mid question reply
next_in v old mid new es entries question reply rest two runs whole is =
    let head = head_lines (head_of v old) in
    let both : Runs v old entries new = subst (λ x. Runs x old entries new) (sym two) whole in
    let lines : journal_lines v old entries ≡ (journal_lines v old es ++ question ∷ reply ∷ []) ++ rest =
    subst (λ x. journal_lines x old entries ≡ (journal_lines v old es ++ question ∷ reply ∷ []) ++ rest) (sym two) is in
    let pairs : flat_map pair_lines entries ≡ flat_map pair_lines es ++ question ∷ reply ∷ rest =
    append_cancel_left (head_lines (head_of v old)) (flat_map pair_lines entries) (flat_map pair_lines es ++ question ∷ reply ∷ rest)
    (lines ∙ (append_assoc (journal_lines v old es) (question ∷ reply ∷ []) rest ∙ append_assoc (head_lines (head_of v old)) (flat_map pair_lines es) (question ∷ reply ∷ rest))) in
    goes_with v old mid new es entries question reply rest runs both (sym pairs)

pub never_wrong : (old new : Machine) (entries : List Entry) (n : ℕ) → IsWithin old → IsHead (head_of 2 old) → Runs 2 old entries new → DisallowsAt old (text_of (journal_lines 2 old entries)) n → ⊥
never_wrong old new entries n within is runs d =
    let free = journal_free 2 old new entries within is runs in
    let before : d.before ≡ journal_lines d.version old d.journal.entries =
    same_lines d.before (journal_lines d.version old d.journal.entries) d.journal.free (journal_free d.version old d.mid d.journal.entries within d.journal.head d.journal.runs) d.journal.bytes_are in
    let s = lines_split (d.before ++ d.question ∷ d.reply ∷ []) (journal_lines 2 old entries) d.left
    (All-append Free d.before (d.question ∷ d.reply ∷ []) d.journal.free (All-cons Free d.question (d.reply ∷ []) d.free_question (All-cons Free d.reply [] d.free_reply (All-nil Free)))) free d.bytes_are in
    let lines : journal_lines 2 old entries ≡ (journal_lines d.version old d.journal.entries ++ d.question ∷ d.reply ∷ []) ++ s.rest =
    s.lines_are ∙ ap (λ b. (b ++ d.question ∷ d.reply ∷ []) ++ s.rest) before in
    let two : d.version ≡ 2 = one_version d.version old d.journal.head (same_first d.version old d.journal.entries entries (d.question ∷ d.reply ∷ []) s.rest lines) in
    let next = next_in d.version old d.mid new d.journal.entries entries d.question d.reply s.rest two d.journal.runs runs lines in
    d.refuses next.entry next.new next.runs next.asks next.replies
