-- Rows that are picked out of all.
use Rattle.std.proofs.Common.{◌≡◌, ℕ, zero, suc, ◌+◌, ◌<◌, ◌==◌, Bool, true, false, cond, ◌&&◌, ◌||◌, arith, append-nil, List, [], ◌∷◌, ◌++◌, map, filter, length, take, get_or, Option, Some, None, Bor, refl, sym, ap, ◌∙◌, if◌then◌else◌}
use Rattle.std.specs.List.{flat_map, cons_option}
use Rattle.std.specs.Str.{bytes_eq}
use Rattle.std.proofs.lemmas.Bool.{or_right, eqb-true}
use Rattle.std.proofs.lemmas.Grind.{flat_map-append}
use Rattle.std.proofs.lemmas.List.{map-append, take_more}
use Rattle.std.proofs.lemmas.List.Elements.{filter-append, filter_map-append}
use Rattle.tp_task.specs.Words.{Words, same_words, has_words}
use Rattle.tp_ground_named.specs.Picks.{tail_after, tails, row_words}

-- words are among some exactly if what follows their first is among what follows it there
pub has_tails : (n : List ℕ) (os : Words) (ws : List Words) → has_words ws (n ∷ os) ≡ has_words (tails n ws) os
has_tails n os [] = refl
has_tails n os ([] ∷ ws) = has_tails n os ws
has_tails n os ((v ∷ w) ∷ ws) = ap (λ b. (bytes_eq n v && same_words os w) || b) (has_tails n os ws) ∙ by (bytes_eq n v)
  where
    by : (b : Bool) → ((b && same_words os w) || has_words (tails n ws) os) ≡ has_words (cons_option (if b then Some w else None) (tails n ws)) os
    by true = refl
    by false = refl

module _ {X : Type 0} where
  pub filter_same : (p q : X → Bool) → ((x : X) → p x ≡ q x) → (xs : List X) → filter p xs ≡ filter q xs
  filter_same p q h [] = refl
  filter_same p q h (x ∷ xs) = ap (λ b. cond b (x ∷ filter p xs) (filter p xs)) (h x) ∙ ap (λ ys. cond (q x) (x ∷ ys) ys) (filter_same p q h xs)

  pub filter_nothing : (xs : List X) → filter (λ x. false) xs ≡ []
  filter_nothing [] = refl
  filter_nothing (x ∷ xs) = filter_nothing xs

  pub filter_through : {Y : Type 0} (p : Y → Bool) (f : X → Y) (xs : List X) → filter p (map f xs) ≡ map f (filter (λ x. p (f x)) xs)
  filter_through p f [] = refl
  filter_through {Y = Y} p f (x ∷ xs) = ap (λ (ys : List Y). cond (p (f x)) (f x ∷ ys) ys) (filter_through p f xs) ∙ by (p (f x))
    where
      by : (b : Bool) → cond b (f x ∷ map f (filter (λ z. p (f z)) xs)) (map f (filter (λ z. p (f z)) xs)) ≡ map f (cond b (x ∷ filter (λ z. p (f z)) xs) (filter (λ z. p (f z)) xs))
      by true = refl
      by false = refl

-- those that are asked for behind a name
pub picked_under : (n : List ℕ) (rows all : List Words) → filter (has_words rows) (map (λ r. n ∷ r) all) ≡ map (λ r. n ∷ r) (filter (has_words (tails n rows)) all)
picked_under n rows all =
    filter_through (has_words rows) (λ (r : Words). n ∷ r) all
    ∙ ap (map (λ (r : Words). n ∷ r)) (filter_same (λ r. has_words rows (n ∷ r)) (has_words (tails n rows)) (λ r. has_tails n r rows) all)

-- no rows ask for nothing
pub none_asked : (rows : List (Bor (List (Bor (List ℕ))))) (all : List Words) → (length rows == 0) ≡ true → filter (has_words (map row_words rows)) all ≡ []
none_asked [] all h = filter_nothing all
none_asked (r ∷ rs) all h = let e : length (r ∷ rs) ≡ 0 = eqb-true (length (r ∷ rs)) 0 h in absurd (omega arith)

pub bare_found : (rows : List (Bor (List (Bor (List ℕ))))) (i : ℕ) (d : Bor (List (Bor (List ℕ)))) → i < length rows → has_words (row_words (get_or rows i d) ∷ []) [] ≡ true → has_words (map row_words rows) [] ≡ true
bare_found [] i d lt h = absurd (omega arith)
bare_found (r ∷ rs) zero d lt h = by (same_words [] (row_words r)) h
  where
    by : (b : Bool) → (b || false) ≡ true → (b || has_words (map row_words rs) []) ≡ true
    by true e = refl
    by false e = absurd (cc)
bare_found (r ∷ rs) (suc i) d lt h = or_right (same_words [] (row_words r)) _ (bare_found rs i d (omega arith) h)

-- what follows a name in one row more
pub more_tails : (n : List ℕ) (rows : List (Bor (List (Bor (List ℕ))))) (i : ℕ) (d : Bor (List (Bor (List ℕ)))) → i < length rows → (o : Option Words) → o ≡ tail_after n (row_words (get_or rows i d)) → (old : List Words) → old ≡ tails n (map row_words (take i rows)) → old ++ cons_option o [] ≡ tails n (map row_words (take (i + 1) rows))
more_tails n rows i d lt o is old so_far =
    ap (λ (ws : List Words). ws ++ cons_option o []) so_far
    ∙ ap (λ (p : Option Words). tails n (map row_words (take i rows)) ++ cons_option p []) is
    ∙ sym (
    ap (λ (rs : List (Bor (List (Bor (List ℕ))))). tails n (map row_words rs)) (take_more rows i d lt)
    ∙ ap (tails n) (map-append row_words (take i rows) (get_or rows i d ∷ []))
    ∙ filter_map-append (tail_after n) (map row_words (take i rows)) (row_words (get_or rows i d) ∷ [])
    )

-- behind one name more
module _ (rows all : List Words) (names : List (Bor (List ℕ))) (i : ℕ) (d : Bor (List ℕ)) (lt : i < length names) where
  abbrev behind : Bor (List ℕ) → List Words
  behind b = map (λ r. b.now ∷ r) all

  one_more : filter (has_words rows) (flat_map behind (take (i + 1) names)) ≡ filter (has_words rows) (flat_map behind (take i names)) ++ map (λ r. (get_or names i d).now ∷ r) (filter (has_words (tails (get_or names i d).now rows)) all)
  one_more =
      ap (λ (ns : List (Bor (List ℕ))). filter (has_words rows) (flat_map behind ns)) (take_more names i d lt)
      ∙ ap (filter (has_words rows)) (flat_map-append behind (take i names) (get_or names i d ∷ []))
      ∙ filter-append (has_words rows) (flat_map behind (take i names)) (flat_map behind (get_or names i d ∷ []))
      ∙ ap (λ (ys : List Words). filter (has_words rows) (flat_map behind (take i names)) ++ filter (has_words rows) ys) (append-nil (behind (get_or names i d)))
      ∙ ap (λ (ys : List Words). filter (has_words rows) (flat_map behind (take i names)) ++ ys) (picked_under (get_or names i d).now rows all)

  pub more_picked : (old new mid ts : List Words) → new ≡ old ++ map (λ r. (get_or names i d).now ∷ r) mid → mid ≡ filter (has_words ts) all → ts ≡ tails (get_or names i d).now rows → old ≡ filter (has_words rows) (flat_map behind (take i names)) → new ≡ filter (has_words rows) (flat_map behind (take (i + 1) names))
  more_picked old new mid ts pushed picked tailed so_far =
      pushed
      ∙ ap (λ (ys : List Words). ys ++ map (λ r. (get_or names i d).now ∷ r) mid) so_far
      ∙ ap (λ (ys : List Words). filter (has_words rows) (flat_map behind (take i names)) ++ map (λ r. (get_or names i d).now ∷ r) ys) (picked ∙ ap (λ (zs : List Words). filter (has_words zs) all) tailed)
      ∙ sym one_more
