-- The drops of offers by index, and their properties.
use Rattle.std.proofs.Common.{◌≡◌, ℕ, ◌+◌, ◌<◌, [], ◌∷◌, List, Bool, true, false, Option, Some, None, ap, ap₂, ◌∙◌, subst, arith, refl, lt-ltb, ltb-true}
use Rattle.std.proofs.Common.{All, AllPairs, Contains, length, nat_lt, if◌then◌else◌}
use Rattle.std.specs.Prelude.{slice_get}
use Rattle.std.proofs.lemmas.Bool.{cond-true}
use Rattle.std.proofs.lemmas.List.Elements.{All-contains}
use Rattle.cqf_units.specs.Timing.{cycle_at}
use Rattle.cqf_lists.specs.Lists.{each_below}
use Rattle.cqf_lists.proofs.EachBelow.{contains_from_below}
use Rattle.cqf_lists.proofs.Members.{all_from_members, contains_at, contains_none, contains_one}
use Rattle.cqf_lists.proofs.Pairs.{pairs_below, pairs_none, pairs_one}
use Rattle.cqf_model.specs.declared.frames.Dropped.{Dropped}
use Rattle.cqf_model.specs.declared.frames.Offer.{Offer}
use Rattle.cqf_model.specs.declared.frames.Reason.{Reason}
use Rattle.cqf_model.specs.Domain.{Domain}
use Rattle.cqf_model.specs.Run.{AreOffers, IsOffer}
use Rattle.cqf_book.specs.BookOrder.{IsDropBelow}
use Rattle.cqf_instants_run.specs.declared.judged.EdgeVerdict.{EdgeVerdict}
use Rattle.cqf_instants_run.specs.declared.judged.EdgeVerdict.TheVariants as edge_verdict
use Rattle.cqf_instants_run.specs.Drops.{drop_at, drop_by_both, drop_judged, drop_within, where_any}

-- the drop of an offer for a reason
abbrev pub drop_of_offer : ℕ → ℕ → Offer → Reason → Dropped
drop_of_offer cycle frame offer reason =
    record { cycle = record { 0 = cycle }; bridge = offer.bridge; frame = frame; octets = offer.octets; reason = reason }

-- it is a drop by the verdict at the offer's index
pub record IsJudgedDrop (cycle_time cycles : ℕ) (offers : List Offer) (edge_verdicts : List EdgeVerdict) (index : ℕ) (x : Dropped) : Type 0 where
  pub offer : Offer
  pub at : slice_get offers index ≡ Some offer
  pub reason : Reason
  pub made : slice_get edge_verdicts index ≡ Some (edge_verdict.Dropped reason)
  pub in_run : cycle_at cycle_time offer.at.0 < cycles
  pub is : drop_of_offer (cycle_at cycle_time offer.at.0) (index + 1) offer reason ≡ x

module _ (cycle_time cycles : ℕ) (offers : List Offer) (edge_verdicts : List EdgeVerdict) where
  -- each drop is one by a verdict
  from_judged : (index : ℕ) (offer : Offer) (j : EdgeVerdict) (early : Bool) (x : Dropped) → slice_get offers index ≡ Some offer →
      slice_get edge_verdicts index ≡ Some j → nat_lt (cycle_at cycle_time offer.at.0) cycles ≡ early →
      Contains (where_any (if early then drop_judged (cycle_at cycle_time offer.at.0) (index + 1) offer j else None)) x →
      IsJudgedDrop cycle_time cycles offers edge_verdicts index x
  from_judged index offer j false x at made e c = absurd (contains_none x c)
  from_judged index offer (edge_verdict.Covered row) true x at made e c = absurd (contains_none x c)
  from_judged index offer (edge_verdict.Dropped reason) true x at made e c =
      let drop = drop_of_offer (cycle_at cycle_time offer.at.0) (index + 1) offer reason in
      record { offer = offer; at = at; reason = reason; made = made; in_run = ltb-true (cycle_at cycle_time offer.at.0) cycles e; is = contains_one drop x c }

  from_both : (index : ℕ) (o : Option Offer) (j : Option EdgeVerdict) (x : Dropped) → slice_get offers index ≡ o → slice_get edge_verdicts index ≡ j →
      Contains (drop_by_both cycle_time cycles (index + 1) o j) x → IsJudgedDrop cycle_time cycles offers edge_verdicts index x
  from_both index None j x at made c = absurd (contains_none x c)
  from_both index (Some offer) None x at made c = absurd (contains_none x c)
  from_both index (Some offer) (Some j) x at made c = from_judged index offer j (nat_lt (cycle_at cycle_time offer.at.0) cycles) x at made refl c

  pub drop_is_judged : (index : ℕ) (x : Dropped) → Contains (drop_at cycle_time cycles offers edge_verdicts index) x →
      IsJudgedDrop cycle_time cycles offers edge_verdicts index x
  drop_is_judged index x c = from_both index (slice_get offers index) (slice_get edge_verdicts index) x refl refl c

  -- and an offer with such a verdict has a drop
  pub judged_is_drop : (index : ℕ) (offer : Offer) (reason : Reason) → slice_get offers index ≡ Some offer →
      slice_get edge_verdicts index ≡ Some (edge_verdict.Dropped reason) → cycle_at cycle_time offer.at.0 < cycles →
      drop_at cycle_time cycles offers edge_verdicts index ≡ drop_of_offer (cycle_at cycle_time offer.at.0) (index + 1) offer reason ∷ []
  judged_is_drop index offer reason at made in_run =
      let cycle = cycle_at cycle_time offer.at.0 in
      ap₂ (λ (o : Option Offer) (j : Option EdgeVerdict). drop_by_both cycle_time cycles (index + 1) o j) at made
      ∙ ap where_any (cond-true (nat_lt cycle cycles) (Some (drop_of_offer cycle (index + 1) offer reason)) None (lt-ltb cycle cycles in_run))

  -- there is at most one drop at an index
  one_there : (R : Dropped → Dropped → Type 0) (drop : Option Dropped) → AllPairs R (where_any drop)
  one_there R None = pairs_none R
  one_there R (Some drop) = pairs_one R drop

  one_of_both : (R : Dropped → Dropped → Type 0) (frame : ℕ) (o : Option Offer) (j : Option EdgeVerdict) →
      AllPairs R (drop_by_both cycle_time cycles frame o j)
  one_of_both R frame None j = pairs_none R
  one_of_both R frame (Some offer) None = pairs_none R
  one_of_both R frame (Some offer) (Some j) = one_there R (drop_within cycle_time cycles frame offer j)

  -- the drops below an index
  abbrev pub by_index : ℕ → List Dropped
  by_index many = each_below (drop_at cycle_time cycles offers edge_verdicts) many

  -- their frames ascend
  pub frames_ascend : (many : ℕ) → AllPairs (λ (a b : Dropped). a.frame < b.frame) (by_index many)
  frames_ascend many =
      pairs_below (λ (a b : Dropped). a.frame < b.frame) (drop_at cycle_time cycles offers edge_verdicts) many
      (λ k below. one_of_both (λ (a b : Dropped). a.frame < b.frame) (k + 1) (slice_get offers k) (slice_get edge_verdicts k))
      (λ j k x y less below cx cy.
      omega (
        arith,
        less,
        ap (λ (z : Dropped). z.frame) (drop_is_judged j x cx).is,
        ap (λ (z : Dropped). z.frame) (drop_is_judged k y cy).is,
      ))

-- they are within the book's order
pub drops_below : (d : Domain) (cycles : ℕ) (offers : List Offer) (edge_verdicts : List EdgeVerdict) → AreOffers d offers →
    All (IsDropBelow cycles (length d.bridges) (length offers + 1)) (by_index d.cycle_time cycles offers edge_verdicts (length offers))
drops_below d cycles offers edge_verdicts offered =
    all_from_members (IsDropBelow cycles (length d.bridges) (length offers + 1)) (by_index d.cycle_time cycles offers edge_verdicts (length offers)) (λ x c.
    let k = contains_from_below (drop_at d.cycle_time cycles offers edge_verdicts) (length offers) x c in
    let r = drop_is_judged d.cycle_time cycles offers edge_verdicts k.0 x k.2 in
    let good = All-contains (IsOffer d) offers r.offer offered (contains_at offers k.0 r.offer r.at) in
    record {
      cycle = subst (λ (z : Dropped). z.cycle.0 < cycles) r.is r.in_run;
      bridge = subst (λ (z : Dropped). z.bridge < length d.bridges) r.is good.at_bridge;
      frame = omega (arith, k.1, ap (λ (z : Dropped). z.frame) r.is);
    })
