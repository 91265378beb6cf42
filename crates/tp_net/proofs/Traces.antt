-- The way back from a point to where its amount came from.
use Rattle.std.proofs.Common.{◌≡◌, ◌≢◌, ℕ, ◌+◌, ◌<◌, List, [], ◌∷◌, ◌++◌, length, refl, sym, ◌∙◌, ap, inl, inr, arith, get_or}
use Rattle.std.specs.Prelude.{All, AllPairs}
use Rattle.std.proofs.lemmas.List.Elements.{All-push, All-weaker}
use Rattle.std.proofs.lemmas.List.Quantifiers.{all_pairs_push}
use Rattle.std.proofs.lemmas.List.Sums.{fold_push}
use Rattle.tp_net.specs.declared.spread.Link.{Link}
use Rattle.tp_net.specs.Links.{IsParent, IsSpread, IsLinkChain, slack_of, link_at}
use Rattle.tp_net.proofs.Spreads.{below_or}

pub chain_more : (links : List Link) (a b k : ℕ) (ks : List ℕ) → IsLinkChain links a b ks → k < length links → (link_at links k).from ≡ b → IsLinkChain links a (link_at links k).to (ks ++ k ∷ [])
chain_more links a b k [] chain within begins = (within, begins ∙ sym chain, refl)
chain_more links a b k (j ∷ js) chain within begins = (chain.0, chain.1, chain_more links (link_at links j).to b k js chain.2 within begins)

-- what `trace` keeps
pub record IsTracing (links : List Link) (seed target point : ℕ) (amounts ranks path : List ℕ) : Type 0 where
  pub positive : 0 < get_or amounts point 0
  pub chain : IsLinkChain links target point path
  pub total : slack_of links path + get_or amounts target 0 ≡ get_or amounts point 0
  pub above : All (λ k. get_or ranks point 0 < get_or ranks (link_at links k).from 0) path
  pub simple : AllPairs (λ j k. (link_at links j).from ≢ (link_at links k).from) path
  pub past : All (λ k. (link_at links k).from ≢ seed) path

module _ (links : List Link) (seed amount target point : ℕ) (amounts ranks parents path : List ℕ)
    (spread : IsSpread links seed amount amounts ranks parents)
    (t : IsTracing links seed target point amounts ranks path)
    (on : point ≢ seed)
  where
    pub parent : IsParent links (λ x. get_or amounts x 0) (λ x. get_or ranks x 0) point (get_or parents point 0)
    parent = spread.spreading.parents point on t.positive

    settled : 0 < get_or ranks point 0
    settled =
        elim (below_or 0 (get_or ranks point 0)) [
          | inl done ↦ done
          | inr none ↦ (let a : get_or amounts point 0 ≡ 0 = spread.ended point (omega arith) in let b : 0 < get_or amounts point 0 = t.positive in absurd (omega arith))
        ]

    pub falls : get_or ranks (link_at links (get_or parents point 0)).to 0 < get_or ranks point 0
    falls = parent.earlier settled

    pub traced_more : IsTracing links seed target (link_at links (get_or parents point 0)).to amounts ranks (path ++ get_or parents point 0 ∷ [])
    traced_more =
        let index = get_or parents point 0 in
        let begins : (link_at links index).from ≡ point = parent.begins in
        let from_rank : get_or ranks (link_at links index).from 0 ≡ get_or ranks point 0 = ap (λ z. get_or ranks z 0) begins in
        let more : get_or amounts point 0 + (link_at links index).slack ≡ get_or amounts (link_at links index).to 0 = parent.amount in
        let positive : 0 < get_or amounts point 0 = t.positive in
        record {
          positive = omega (arith, more, positive);
          chain = chain_more links target point index path t.chain parent.within begins;
          total =
              let e : slack_of links (path ++ index ∷ []) ≡ slack_of links path + (link_at links index).slack = fold_push (λ s k. s + (link_at links k).slack) 0 path index in
              let f = t.total in
              omega (arith, e, f, more);
          above = All-push (λ k. get_or ranks (link_at links index).to 0 < get_or ranks (link_at links k).from 0) path index
              (All-weaker (λ k. get_or ranks point 0 < get_or ranks (link_at links k).from 0) (λ k. get_or ranks (link_at links index).to 0 < get_or ranks (link_at links k).from 0) (λ k h. omega (arith, falls, h)) path t.above)
              (omega (arith, falls, from_rank));
          simple = all_pairs_push (λ j k. (link_at links j).from ≢ (link_at links k).from) path index t.simple
              (λ j d within same.
              let a : get_or ranks point 0 < get_or ranks (link_at links (get_or path j d)).from 0 = t.above j d within in
              let b : get_or ranks (link_at links (get_or path j d)).from 0 ≡ get_or ranks (link_at links index).from 0 = ap (λ z. get_or ranks z 0) same in
              omega (arith, a, b, from_rank));
          past = All-push (λ k. (link_at links k).from ≢ seed) path index t.past (λ e. on (sym begins ∙ e));
        }
