-- The choices of nodes when one is added.
use Rattle.std.proofs.Common.{◌≡◌, ℕ, suc, zero, ◌+◌, ◌<◌, ◌≤◌, List, [], ◌∷◌, ◌++◌, length, refl, sym, ap, ◌∙◌, arith, get_or, length-append, ◌-◌, reverse, append_assoc}
use Rattle.std.proofs.lemmas.Grind.{common_steps}
use Rattle.tp_search.specs.declared.arena.Node.{Node}
use Rattle.tp_search.specs.Chains.{chains_from, chains, AreOlder}

pub chains_append : (known : List (List ℕ)) (ns : List Node) (n : Node) → chains_from known (ns ++ n ∷ []) ≡ chains_from known ns ++ (get_or (chains_from known ns) n.parent [] ++ n.action ∷ []) ∷ []
chains_append known [] n = refl
chains_append known (m ∷ ns) n = chains_append (known ++ (get_or known m.parent [] ++ m.action ∷ []) ∷ []) ns n

pub chains_more : (ns : List Node) (n : Node) → chains (ns ++ n ∷ []) ≡ chains ns ++ (get_or (chains ns) n.parent [] ++ n.action ∷ []) ∷ []
chains_more ns n = chains_append ([] ∷ []) ns n

chains_length : (known : List (List ℕ)) (ns : List Node) → length (chains_from known ns) ≡ length known + length ns
chains_length known [] = omega arith
chains_length known (m ∷ ns) = omega (arith, chains_length (known ++ (get_or known m.parent [] ++ m.action ∷ []) ∷ []) ns, length-append known ((get_or known m.parent [] ++ m.action ∷ []) ∷ []))

older_append : (k : ℕ) (ns : List Node) (n : Node) → AreOlder k ns → n.parent < k + length ns → AreOlder k (ns ++ n ∷ [])
older_append k [] n h l = (omega arith, tt)
older_append k (m ∷ ns) n h l = (h.0, older_append (suc k) ns n h.1 (omega arith))

pub older_more : (ns : List Node) (n : Node) → AreOlder 1 ns → n.parent < length (chains ns) → AreOlder 1 (ns ++ n ∷ [])
older_more ns n h l = older_append 1 ns n h (omega (arith, chains_length ([] ∷ []) ns))

get_kept : (xs ys : List (List ℕ)) (i : ℕ) → i < length xs → get_or (xs ++ ys) i [] ≡ get_or xs i []
get_kept [] ys i l = absurd (omega arith)
get_kept (x ∷ xs) ys zero l = refl
get_kept (x ∷ xs) ys (suc i) l = get_kept xs ys i (omega arith)

get_last : (xs : List (List ℕ)) (x : List ℕ) (i : ℕ) → i ≡ length xs → get_or (xs ++ x ∷ []) i [] ≡ x
get_last [] x i e = rw e refl
get_last (y ∷ xs) x zero e = absurd (omega arith)
get_last (y ∷ xs) x (suc i) e = get_last xs x i (omega arith)

chains_kept : (known : List (List ℕ)) (ns : List Node) (i : ℕ) → i < length known → get_or (chains_from known ns) i [] ≡ get_or known i []
chains_kept known [] i l = refl
chains_kept known (m ∷ ns) i l =
    let x : List ℕ = get_or known m.parent [] ++ m.action ∷ [] in
    chains_kept (known ++ x ∷ []) ns i (omega (arith, length-append known (x ∷ []))) ∙ get_kept known (x ∷ []) i l

pub record Step (all : List (List ℕ)) (n : Node) (i : ℕ) : Type 0 where
  pub chosen : get_or all i [] ≡ get_or all n.parent [] ++ n.action ∷ []
  pub older : n.parent < i

chain_at : (known : List (List ℕ)) (ns : List Node) (k i j : ℕ) → length known ≡ k → i ≡ k + j → j < length ns → AreOlder k ns → (d : Node) → Step (chains_from known ns) (get_or ns j d) i
chain_at known [] k i j e q l h d = absurd (omega arith)
chain_at known (m ∷ ns) k i zero e q l h d =
    let x : List ℕ = get_or known m.parent [] ++ m.action ∷ [] in
    record {
      chosen =
          chains_kept (known ++ x ∷ []) ns i (omega (arith, length-append known (x ∷ [])))
          ∙ (get_last known x i (omega arith)
          ∙ ap (λ ys. ys ++ m.action ∷ []) (sym (chains_kept (known ++ x ∷ []) ns m.parent (omega (arith, h.0, length-append known (x ∷ []))) ∙ get_kept known (x ∷ []) m.parent (omega (arith, h.0)))));
      older = omega (arith, h.0);
    }
chain_at known (m ∷ ns) k i (suc j) e q l h d =
    let x : List ℕ = get_or known m.parent [] ++ m.action ∷ [] in
    chain_at (known ++ x ∷ []) ns (suc k) i j (omega (arith, length-append known (x ∷ []))) (omega arith) (omega arith) h.1 d

pub chain_step : (ns : List Node) (i : ℕ) → AreOlder 1 ns → 0 < i → i ≤ length ns → (d : Node) → Step (chains ns) (get_or ns (i - 1) d) i
chain_step ns i h p l d = chain_at ([] ∷ []) ns 1 i (i - 1) refl (omega arith) (omega arith) h d

pub root_chain : (ns : List Node) → get_or (chains ns) 0 [] ≡ []
root_chain ns = chains_kept ([] ∷ []) ns 0 (omega arith)

pub chain_count : (ns : List Node) → length (chains ns) ≡ 1 + length ns
chain_count ns = chains_length ([] ∷ []) ns

reverse_more : (xs : List ℕ) (a : ℕ) → reverse (xs ++ a ∷ []) ≡ a ∷ reverse xs
reverse_more xs a = grind (arith, common_steps)

pub taken_up : (all chosen : List ℕ) (got parent : List ℕ) (a : ℕ) → got ++ reverse chosen ≡ all → got ≡ parent ++ a ∷ [] → (new : List ℕ) → new ≡ chosen ++ a ∷ [] → parent ++ reverse new ≡ all
taken_up all chosen got parent a h e new q = ap (λ xs. parent ++ reverse xs) q ∙ (ap (λ xs. parent ++ xs) (reverse_more chosen a) ∙ (sym (append_assoc parent (a ∷ []) (reverse chosen)) ∙ (ap (λ xs. xs ++ reverse chosen) (sym e) ∙ h)))
