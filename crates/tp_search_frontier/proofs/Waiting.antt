-- Queues that grow, and queues in which no node waits.
use Rattle.std.specs.Prelude.{ℕ, zero, suc, ◌≡◌, ◌<◌, ◌≤◌, ◌+◌, List, [], ◌∷◌, ◌++◌, length, set, take, replicate, slice_index_or}
use Rattle.std.proofs.Common.{subst, sym, ap, refl, ◌∙◌, arith}
use Rattle.std.proofs.lemmas.List.{take_more, take_all, take-take, take-set-le, replicate_more, append-nil, append_assoc}
use Rattle.std.proofs.lemmas.List.Elements.{All-push, All-take}
use Rattle.tp_search_frontier.specs.Waiting.{AreEmpty, GoesOn, with_node}

-- one more queue in which no node waits
pub empty_more : (queues : List (List ℕ)) (i : ℕ) → i < length queues → AreEmpty (take i queues) → slice_index_or queues i [] ≡ [] → AreEmpty (take (i + 1) queues)
empty_more queues i l e z = rw (take_more queues i [] l) (All-push (λ q. q ≡ []) (take i queues) (slice_index_or queues i []) e z)

pub empty_push : (n : ℕ) (queues : List (List ℕ)) → queues ≡ replicate n [] → queues ++ [] ∷ [] ≡ replicate (n + 1) []
empty_push n queues e = rw e (replicate_more n [])

-- where no node waits before the end, none waits
pub all_empty : (n : ℕ) (queues : List (List ℕ)) → length queues ≤ n → AreEmpty (take n queues) → AreEmpty queues
all_empty n queues l e = subst AreEmpty (take_all n queues l) e

pub goes_on_same : (queues : List (List ℕ)) → GoesOn queues queues
goes_on_same [] = tt
goes_on_same (queue ∷ queues) = (([], sym (append-nil queue)), goes_on_same queues)

pub goes_on_node : (queues : List (List ℕ)) (node lacking : ℕ) → GoesOn queues (with_node queues node lacking)
goes_on_node [] node lacking = tt
goes_on_node (queue ∷ queues) node zero = ((node ∷ [], refl), goes_on_same queues)
goes_on_node (queue ∷ queues) node (suc lacking) = (([], sym (append-nil queue)), goes_on_node queues node lacking)

pub goes_on_further : (a b c : List (List ℕ)) → GoesOn a b → GoesOn b c → GoesOn a c
goes_on_further [] [] c p q = q
goes_on_further [] (y ∷ b) c p q = absurd p
goes_on_further (x ∷ a) [] c p q = absurd p
goes_on_further (x ∷ a) (y ∷ b) [] p q = absurd q
goes_on_further (x ∷ a) (y ∷ b) (z ∷ c) p q =
    ((p.0.0 ++ q.0.0, q.0.1 ∙ ap (λ t. t ++ q.0.0) p.0.1 ∙ append_assoc x p.0.0 q.0.0), goes_on_further a b c p.1 q.1)

pub empty_set : (queues : List (List ℕ)) (at : ℕ) (queue : List ℕ) → AreEmpty (take at queues) → AreEmpty (take at (set queues at queue))
empty_set queues at queue e = subst AreEmpty (sym (take-set-le at queues at queue (omega arith))) e

-- a node waits in a queue: those below the lowest are empty still
pub empty_put : (queues : List (List ℕ)) (lowest lower at : ℕ) (longer : List ℕ) → lower ≤ lowest → lower ≤ at → AreEmpty (take lowest queues) → AreEmpty (take lower (set queues at longer))
empty_put queues lowest lower at longer l m e =
    subst AreEmpty (sym (take-set-le lower queues at longer m)) (subst AreEmpty (take-take lower lowest queues l) (All-take (λ q. q ≡ []) lower (take lowest queues) e))
