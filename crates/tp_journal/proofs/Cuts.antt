-- Lines at the end of a text, and a pair that was cut off.
use Rattle.std.proofs.Common.{◌≡◌, ◌≢◌, ◌∙◌, ℕ, suc, ◌+◌, ◌-◌, ◌<◌, ◌≤◌, inl, inr, List, [], ◌∷◌, ◌++◌, length, take, drop, get_or, refl, ap, sym, subst, arith}
use Rattle.std.proofs.Math.Seq.{drop-cons}
use Rattle.std.proofs.lemmas.List.Elements.{All-cons, All-nil}
use Rattle.std.proofs.lemmas.List.{drop-append-le, drop_all, length-take-le, take-append-drop}
use Rattle.tp_script.specs.Reading.{Free}
use Rattle.tp_journal.specs.Replay.{IsTornPair}

-- one byte more in front
pub drop_one : (bytes : List ℕ) (at : ℕ) → 0 < at → at ≤ length bytes → drop (at - 1) bytes ≡ get_or bytes (at - 1) 0 ∷ drop at bytes
drop_one bytes at some le =
    let n : suc (at - 1) ≡ at = omega arith in
    drop-cons bytes (at - 1) 0 (omega arith) ∙ ap (λ k. get_or bytes (at - 1) 0 ∷ drop k bytes) n

pub free_one : (bytes : List ℕ) (at : ℕ) → 0 < at → at ≤ length bytes → get_or bytes (at - 1) 0 ≢ 10 → Free (drop at bytes) → Free (drop (at - 1) bytes)
free_one bytes at some le other free = subst Free (sym (drop_one bytes at some le)) (All-cons (λ b. b ≢ 10) (get_or bytes (at - 1) 0) (drop at bytes) other free)

pub free_all : (bytes : List ℕ) → Free (drop (length bytes) bytes)
free_all bytes = subst Free (sym (drop_all (length bytes) bytes (omega arith))) (All-nil (λ b. b ≢ 10))

pub torn_none : (bytes : List ℕ) → IsTornPair (drop (length bytes) bytes)
torn_none bytes = inl (drop_all (length bytes) bytes (omega arith))

-- the last line alone
pub torn_question : (bytes : List ℕ) (last : ℕ) → last < length bytes → get_or bytes last 0 ≡ 62 → Free (drop last bytes) → IsTornPair (drop last bytes)
torn_question bytes last lt is free =
    inr (drop (suc last) bytes, drop-cons bytes last 0 lt ∙ ap (λ b. b ∷ drop (suc last) bytes) is, inl free)

-- the last two lines
pub torn_reply : (bytes : List ℕ) (last before : ℕ) → 0 < last → last ≤ length bytes → before ≤ last - 1 → drop (last - 1) bytes ≡ 10 ∷ drop last bytes → Free (drop last bytes) → Free (drop before (take (last - 1) bytes)) → get_or bytes before 0 ≡ 62 → IsTornPair (drop before bytes)
torn_reply bytes last before some le within behind free front is =
    let size : before ≤ length (take (last - 1) bytes) = subst (λ n. before ≤ n) (sym (length-take-le (last - 1) bytes (omega arith))) within in
    let whole : drop before bytes ≡ drop before (take (last - 1) bytes) ++ 10 ∷ drop last bytes =
    ap (drop before) (sym (take-append-drop (last - 1) bytes))
    ∙ (drop-append-le before (take (last - 1) bytes) (drop (last - 1) bytes) size
    ∙ ap (λ t. drop before (take (last - 1) bytes) ++ t) behind) in
    inr (drop (suc before) bytes, drop-cons bytes before 0 (omega arith) ∙ ap (λ b. b ∷ drop (suc before) bytes) is, inr (drop before (take (last - 1) bytes), drop last bytes, whole, front, free))
