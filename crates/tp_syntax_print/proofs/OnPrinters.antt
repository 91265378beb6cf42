-- What a printer does, one part after another.
use Rattle.std.proofs.Common.{◌≡◌, ℕ, ◌+◌, ◌<◌, ◌≤◌, List, [], ◌∷◌, ◌++◌, length, drop, get_or, Option, Result, Ok, Err, refl, sym, ap, ◌∙◌, subst}
use Rattle.std.proofs.lemmas.List.{at_drop_more, at_drop_all}
use Rattle.tp_device.specs.declared.Failed.{Failed}
use Rattle.tp_device.specs.Bytes.{Writes, failures_after}
use Rattle.std.proofs.KnownBytes.{Appends-nil}
use Rattle.tp_device.proofs.Parts.{part_first, writes_after}
use Rattle.tp_syntax_print.specs.Printers.{Progress, progress, HandsOver, Prints}
use Rattle.tp_syntax_print.specs.declared.printer.Printer.{Printer}

after_ok : (m c : Progress) (a : Option (List ℕ)) (n : ℕ) (r : Result (Unit {0}) Failed) (xs ys : List ℕ) → m.outcome ≡ r → Writes a m.held xs r × (m.failures ≡ failures_after n r) → HandsOver r m c ys → Writes a c.held (xs ++ ys) c.outcome × (c.failures ≡ failures_after n c.outcome)
after_ok m c a n (Ok x) xs ys is first more =
    (writes_after c.outcome a m.held c.held xs ys _ refl first.0 more.0, more.1 ∙ ap (λ k. failures_after k c.outcome) first.1)
after_ok m c a n (Err e) xs ys is first more =
    let same : c.outcome ≡ Err e = ap (λ (p : Progress). p.outcome) more ∙ is in
    subst (λ (p : Progress). Writes a p.held (xs ++ ys) p.outcome × (p.failures ≡ failures_after n p.outcome)) (sym more)
    (subst (λ r. Writes a m.held (xs ++ ys) r × (m.failures ≡ failures_after n r)) (sym is) (part_first a m.held xs ys _ refl first.0, first.1))

more_from : (a b c : Progress) (r : Result (Unit {0}) Failed) (xs ys : List ℕ) → a.outcome ≡ r → HandsOver r a b xs → HandsOver b.outcome b c ys → HandsOver r a c (xs ++ ys)
more_from a b c (Ok x) xs ys is first more = after_ok b c a.held a.failures b.outcome xs ys refl first more
more_from a b c (Err e) xs ys is first more =
    let failed : b.outcome ≡ Err e = ap (λ (p : Progress). p.outcome) first ∙ is in
    (subst (λ r. HandsOver r b c ys) failed more) ∙ first

none_from : (a : Progress) (r : Result (Unit {0}) Failed) → a.outcome ≡ r → HandsOver r a a []
none_from a (Ok x) is = subst (λ r. Writes a.held a.held [] r × (a.failures ≡ failures_after a.failures r)) (sym is) (Appends-nil a.held, refl)
none_from a (Err e) is = refl

module _ {W : Type 0} {held : W → Option (List ℕ)} {failures : W → ℕ} where
  pub prints_none : {a : Printer W} → Prints held failures a a []
  prints_none {a} = record { same = refl; written = none_from (progress held failures a) a.outcome refl }

  pub prints_more : {a b c : Printer W} {xs ys : List ℕ} → Prints held failures a b xs → Prints held failures b c ys → Prints held failures a c (xs ++ ys)
  prints_more {a} {b} {c} {xs} {ys} first more =
      record {
        same = more.same ∙ first.same;
        written = more_from (progress held failures a) (progress held failures b) (progress held failures c) a.outcome xs ys refl first.written more.written;
      }

  pub prints_is : {a b : Printer W} (xs ys : List ℕ) → xs ≡ ys → Prints held failures a b xs → Prints held failures a b ys
  prints_is {a} {b} xs ys is h = subst (λ zs. Prints held failures a b zs) is h

  pub prints_as : {a b : Printer W} {xs ys : List ℕ} → Prints held failures a b xs → xs ≡ ys → Prints held failures a b ys
  prints_as {a} {b} {xs} {ys} h is = prints_is xs ys is h

  -- A list whose items are written one after another.
  module _ {X : Type 0} (text : List X → List ℕ) (one : X → List ℕ) where
    pub goes_on : {a b c : Printer W} (xs : List X) (i : ℕ) (x : X) → ((y : X) (ys : List X) → text (y ∷ ys) ≡ one y ++ text ys) → i < length xs → x ≡ get_or xs i x → Prints held failures b c (one x) → ((new : Printer W) → Prints held failures b new (text (drop i xs)) → Prints held failures a new (text xs)) → (new : Printer W) → Prints held failures c new (text (drop (i + 1) xs)) → Prints held failures a new (text xs)
    goes_on {a} {b} {c} xs i x each lt item first so_far new rest =
        so_far new (prints_is (one x ++ text (drop (i + 1) xs)) (text (drop i xs)) (ap (λ (y : X). one y ++ text (drop (i + 1) xs)) item ∙ sym (at_drop_more text xs i x lt ∙ each (get_or xs i x) (drop (i + 1) xs))) (prints_more first rest))

    pub ends : {a b : Printer W} (xs : List X) (i : ℕ) → text [] ≡ [] → length xs ≤ i → ((new : Printer W) → Prints held failures b new (text (drop i xs)) → Prints held failures a new (text xs)) → Prints held failures a b (text xs)
    ends {a} {b} xs i none le so_far = so_far b (prints_is [] (text (drop i xs)) (sym (at_drop_all text xs i le ∙ none)) prints_none)

  -- a print that began with no failure
  pub whole : (a b : Printer W) (text : List ℕ) (before after : Option (List ℕ)) (r : Result (Unit {0}) Failed) → held a.writer.now ≡ before → a.outcome ≡ Ok tt → r ≡ b.outcome → Prints held failures a b text → after ≡ held b.writer.now → Writes before after text r
  whole a b text before after r is begun end h last =
      subst (λ q. Writes before after text q) (sym end)
      (subst (λ x. Writes before x text b.outcome) (sym last)
      (subst (λ x. Writes x (held b.writer.now) text b.outcome) is
      (subst (λ q. HandsOver q (progress held failures a) (progress held failures b) text) begun h.written).0))
