-- What arrives at a bridge in a cycle is in order of its frames' keys.
use Rattle.std.proofs.Common.{◌≡◌, ℕ, ◌+◌, ◌*◌, ◌<◌, ◌≤◌, List, length, inl, inr, refl, sym, ap, ◌∙◌, arith, AllPairs, Contains}
use Rattle.std.proofs.Common.{eqb-true}
use Rattle.std.specs.Prelude.{◌==◌, map, filter}
use Rattle.std.proofs.lemmas.Bool.{and_parts, cases_order}
use Rattle.std.proofs.lemmas.List.Kept.{AllPairs-filter}
use Rattle.cqf_lists.specs.Lists.{each_below}
use Rattle.cqf_lists.proofs.EachBelow.{contains_from_below}
use Rattle.cqf_lists.proofs.Made.{contains_if}
use Rattle.cqf_lists.proofs.Members.{contains_from_filter, contains_from_map}
use Rattle.cqf_lists.proofs.Pairs.{pairs_append, pairs_below, pairs_if, pairs_map, pairs_weaker}
use Rattle.cqf_model.specs.declared.frames.Offer.{Offer}
use Rattle.cqf_model.specs.declared.frames.Offered.{Offered}
use Rattle.cqf_model.specs.declared.frames.Sent.{Sent}
use Rattle.cqf_model.specs.Domain.{Domain, enters}
use Rattle.cqf_model.specs.Run.{Run}
use Rattle.cqf_model.specs.Policing.{Carried, Received, is_offered_at, numbered, offer_received, offered_at, received_at, relayed_at, sent_received, whole_at}
use Rattle.cqf_model.proofs.Coming.{offered_when, received_when, relayed_when}
use Rattle.cqf_laws_shift.proofs.Came.{numbers_ascend}
use Rattle.cqf_laws_cycle.specs.BridgeCycle.{received_in}
use Rattle.cqf_laws_instants.specs.TakenLaws.{IsTakenBefore, source_of}
use Rattle.cqf_laws_instants.proofs.Ordered.{Either}

-- of two frames at most one is taken before the other
pub one_way : (a b : Received) → IsTakenBefore a b → IsTakenBefore b a → ⊥
one_way a b h k = omega (arith, h, k)

-- frames of different sources never tie
pub by_sources : (a b : Received) → source_of a.ingress < source_of b.ingress → Either IsTakenBefore a b
by_sources a b l = elim (cases_order a.at b.at) [
  | inl e ↦ inl (inr (e, inl l))
  | inr o ↦ elim o [ inl sooner ↦ inl (inl sooner) | inr later ↦ inr (inl later) ]
]

-- what a link sends is in this order if it arrives fully in the link's own order
pub link_in_order : (d : Domain) (m : ℕ) (sents : List Sent) → AllPairs (λ (a b : Sent). whole_at d m a < whole_at d m b) sents →
    AllPairs IsTakenBefore (map (sent_received d m) sents)
link_in_order d m sents all =
    pairs_map IsTakenBefore (sent_received d m) sents
    (pairs_weaker (λ (a b : Sent). whole_at d m a < whole_at d m b) (λ (a b : Sent). IsTakenBefore (sent_received d m a) (sent_received d m b)) sents
    (λ a b ca cb l. inl l) all)

-- the offers at a bridge at one instant are ordered by number
pub offers_at_in_order : (offers : List Offer) (bridge t : ℕ) → AllPairs IsTakenBefore (offered_at offers bridge t)
offers_at_in_order offers bridge t =
    let here = filter (is_offered_at bridge t) (numbered offers) in
    let when : (x : Offered) → Contains here x → x.offer.at.0 ≡ t =
    λ x c. eqb-true x.offer.at.0 t
    (and_parts (x.offer.bridge == bridge) (x.offer.at.0 == t) (contains_from_filter (is_offered_at bridge t) (numbered offers) x c).1).1 in
    pairs_map IsTakenBefore offer_received here
    (pairs_weaker (λ (a b : Offered). a.frame < b.frame) (λ (a b : Offered). IsTakenBefore (offer_received a) (offer_received b)) here
    (λ a b ca cb l. inr (when a ca ∙ sym (when b cb), inr (refl, l)))
    (AllPairs-filter (λ (a b : Offered). a.frame < b.frame) (is_offered_at bridge t) (numbered offers) (numbers_ascend offers)))

-- what a link brings has the link's number as its source
pub link_source : (d : Domain) (m : ℕ) (sents : List Sent) (x : Received) → Contains (map (sent_received d m) sents) x → source_of x.ingress ≡ m
link_source d m sents x h =
    let w = contains_from_map (sent_received d m) sents x h in
    sym (ap (λ (y : Received). source_of y.ingress) w.2)

-- and the source number of an offer is greater than that of every link
pub offer_source : (offers : List Offered) (x : Received) → Contains (map offer_received offers) x → source_of x.ingress ≡ 4096
offer_source offers x h =
    let w = contains_from_map offer_received offers x h in
    sym (ap (λ (y : Received). source_of y.ingress) w.2)

module _ (run : Run) (carried : Carried) (bridge : ℕ) (few : length run.domain.links ≤ 4096)
    (ordered : (m : ℕ) → AllPairs (λ (a b : Sent). whole_at run.domain m a < whole_at run.domain m b) (carried m)) where
  -- what a link brings at an instant has the link's number as its source
  relayed_source : (t m : ℕ) (x : Received) → Contains (relayed_at run.domain carried bridge t m) x → source_of x.ingress ≡ m
  relayed_source t m x h =
      let d = run.domain in
      let whole = filter (λ (sent : Sent). whole_at d m sent == t) (carried m) in
      link_source d m whole x (contains_if (enters d m bridge) (map (sent_received d m) whole) x h)

  -- what arrives at an instant is in order
  at_one_instant : (t : ℕ) → AllPairs IsTakenBefore (received_at run carried bridge t)
  at_one_instant t =
      let d = run.domain in
      let links = length d.links in
      let by = relayed_at d carried bridge t in
      pairs_append IsTakenBefore (each_below by links) (offered_at run.offers bridge t)
      (pairs_below IsTakenBefore by links
      (λ m l. pairs_if IsTakenBefore (enters d m bridge) (map (sent_received d m) (filter (λ (sent : Sent). whole_at d m sent == t) (carried m)))
      (λ here. link_in_order d m (filter (λ (sent : Sent). whole_at d m sent == t) (carried m))
      (AllPairs-filter (λ (a b : Sent). whole_at d m a < whole_at d m b) (λ (sent : Sent). whole_at d m sent == t) (carried m) (ordered m))))
      (λ m n x y less l cx cy. inr (
        relayed_when d carried bridge t m x cx ∙ sym (relayed_when d carried bridge t n y cy),
        inl (omega (arith, less, relayed_source t m x cx, relayed_source t n y cy)),
      )))
      (offers_at_in_order run.offers bridge t)
      (λ x y cx cy.
      let w = contains_from_below by links x cx in
      inr (
        relayed_when d carried bridge t w.0 x w.2 ∙ sym (offered_when run.offers bridge t y cy),
        inl (omega (arith, few, w.1, relayed_source t w.0 x w.2, offer_source (filter (is_offered_at bridge t) (numbered run.offers)) y cy)),
      ))

  -- and so is what arrives in a cycle
  pub in_one_cycle : (cycle : ℕ) → AllPairs IsTakenBefore (received_in run carried bridge cycle)
  in_one_cycle cycle =
      let first = cycle * run.domain.cycle_time in
      pairs_below IsTakenBefore (λ offset. received_at run carried bridge (first + offset)) run.domain.cycle_time
      (λ offset l. at_one_instant (first + offset))
      (λ j k x y less l cx cy. inl (omega (arith, less, received_when run carried bridge (first + j) x cx, received_when run carried bridge (first + k) y cy)))
