-- What streams offer, by instant.
use Rattle.std.proofs.Common.{◌≡◌, ℕ, ◌+◌, ◌<◌, ◌∷◌, [], List, Contains, Option, Some, None, ap, arith, inl, inr, ltb-true, nat_lt, refl, subst, suc, ◌∙◌}
use Rattle.std.specs.List.Sorted.{IsNonDecreasingBy, IsPermutation, IsStableByKey}
use Rattle.std.specs.Ordering.{nat_cmp}
use Rattle.std.proofs.lemmas.List.Elements.{Contains-append_cases}
use Rattle.rand_pcg.specs.Lcg.{Lcg}
use Rattle.cqf_lists.proofs.EachBelow.{contains_from_below}
use Rattle.cqf_lists.proofs.Made.{contains_if_there}
use Rattle.cqf_lists.proofs.Members.{all_from_members, contains_none, contains_one}
use Rattle.cqf_lists.proofs.Sorted.{sorted_by_key}
use Rattle.cqf_model.specs.declared.frames.Offer.{Offer}
use Rattle.cqf_traffic.specs.TrafficText.{TrafficText}
use Rattle.cqf_traffic.specs.declared.senders.TalkerStream.{TalkerStream}
use Rattle.cqf_traffic.specs.Offering.{block_before, block_of, blocks_before, frame_of, in_order, reached, sent_from, sent_with, words_of}

-- the instant of an offer
abbrev pub at_of : Offer → ℕ
at_of x = x.at.0

-- an offer at an instant
at_instant : ℕ → Offer
at_instant t = record { at = record { 0 = t }; bridge = 0; stream = []; octets = 0 }

-- the instant of this offer
at_instants : (t : ℕ) → at_of (at_instant t) ≡ t
unfolding at_instant
at_instants t = refl

-- what a stream offers is before the end
sent_early : (until : ℕ) (sender : TalkerStream) (words : Option Lcg) (traffic : Option TrafficText) (x : Offer) →
    Contains (sent_with until sender words traffic) x → at_of x < until
sent_early until sender words None x c = absurd (contains_none x c)
sent_early until sender words (Some t) x c =
    let at : ℕ → ℕ = λ block. reached t words (suc block) in
    let block = contains_from_below (λ block. block_before until sender t (at block)) (blocks_before until t) x c in
    let here = contains_if_there (nat_lt (at block.0) until) (block_of sender t (at block.0)) x block.2 in
    let one = contains_from_below (λ _. frame_of sender t (at block.0) ∷ []) t.frames x here.1 in
    let same = ap at_of (contains_one (frame_of sender t (at block.0)) x one.2) in
    omega (arith, same, ltb-true (at block.0) until here.0)

-- so is what streams offer
all_early : (until : ℕ) (seed : Option ℕ) (n : ℕ) (senders : List TalkerStream) (x : Offer) → Contains (sent_from until seed n senders) x → at_of x < until
all_early until seed n [] x c = absurd (contains_none x c)
all_early until seed n (s ∷ senders) x c =
    elim (Contains-append_cases (sent_with until s (words_of seed n) s.traffic) (sent_from until seed (n + 1) senders) x c) [
      | inl here ↦ sent_early until s (words_of seed n) s.traffic x here
      | inr there ↦ all_early until seed (n + 1) senders x there
    ]

-- a stable sort by instant brings it into order
pub arranged : (until : ℕ) (seed : Option ℕ) (senders : List TalkerStream) (sent sorted : List Offer) → sent ≡ sent_from until seed 0 senders →
    IsPermutation sent sorted → IsNonDecreasingBy at_of sorted → IsStableByKey at_of nat_cmp sent sorted → sorted ≡ in_order until (sent_from until seed 0 senders)
arranged until seed senders sent sorted is moved ascends stable =
    sorted_by_key at_of at_instant at_instants until sent sorted moved ascends stable
    (all_from_members (λ x. at_of x < until) sent (λ x c. all_early until seed 0 senders x (subst (λ (xs : List Offer). Contains xs x) is c)))
    ∙ ap (in_order until) is
