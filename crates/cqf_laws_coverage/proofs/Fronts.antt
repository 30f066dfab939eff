-- If offers are in order of instant, the offers before an offer precede it in the list.
use Rattle.cqf_units.specs.Timing.{counted_of}
use Rattle.cqf_model.specs.Table.{reserved_in}
use Rattle.std.proofs.Common.{◌≡◌, ℕ, suc, ◌+◌, ◌-◌, ◌<◌, ◌≤◌, ◌∷◌, [], ◌++◌, List, Bool, false, inl, inr, sym, ap, ap₂, ◌∙◌, subst, arith, refl}
use Rattle.std.proofs.Common.{AllPairs, Contains, filter, fold, length, get_or, take, ◌==◌, ◌&&◌, append-nil, ne_eqb, nat_le, if◌then◌else◌}
use Rattle.std.specs.List.{enumerate_from}
use Rattle.std.specs.List.Sorted.{IsNonDecreasingBy}
use Rattle.std.proofs.lemmas.Bool.{cases_lt}
use Rattle.std.proofs.lemmas.List.{get_or-map, get_or_append_left, length-append, length-map, take_at}
use Rattle.std.proofs.lemmas.Grind.{take_at_read}
use Rattle.std.proofs.lemmas.Option.{get_or_from_slice_get, slice_get_within}
use Rattle.std.proofs.lemmas.List.Elements.{filter-append}
use Rattle.std.proofs.lemmas.List.FromFn.{get_or-enumerate_from, length-enumerate_from}
use Rattle.std.proofs.lemmas.List.Sums.{fold-append}
use Rattle.std.proofs.Math.Seq.{get_or-append_seam}
use Rattle.cqf_lists.specs.Lists.{each_below}
use Rattle.cqf_lists.proofs.EachBelow.{filter_none, same_below}
use Rattle.cqf_lists.proofs.Keys.{by_key}
use Rattle.cqf_lists.proofs.Members.{contains_cases, contains_here, contains_later, parted_at}
use Rattle.cqf_lists.proofs.Pairs.{pairs_across, pairs_head, pairs_map, pairs_second}
use Rattle.cqf_model.specs.declared.frames.Offer.{Offer}
use Rattle.cqf_model.specs.declared.frames.Offered.{Offered}
use Rattle.cqf_model.specs.declared.topology.Row.{Row}
use Rattle.cqf_model.specs.Domain.{Domain, is_text}
use Rattle.cqf_model.specs.Shift.{offer_cycle, offers_at, offers_before, take_octets}
use Rattle.cqf_model.specs.Table.{begins_at}
use Rattle.cqf_model.specs.Policing.{numbered}
use Rattle.cqf_laws_shift.proofs.Decided.{smaller_before}
use Rattle.cqf_laws_coverage.specs.Judged.{CountersBegin, CountersGoOn, OffersBeforeStandBefore, StandInOrder}

-- an offer with its number
abbrev the_offered : ℕ × Offer → Offered
the_offered x = record { frame = x.0; offer = x.1 }

-- the numbered offers are in order too
numbered_in_order : (offers : List Offer) → StandInOrder offers → AllPairs (λ (a b : Offered). a.offer.at.0 ≤ b.offer.at.0) (numbered offers)
numbered_in_order offers ordered i j e l inside =
    pairs_map (λ (a b : Offered). a.offer.at.0 ≤ b.offer.at.0) the_offered (enumerate_from 1 offers) indices i j e l inside
  where
    -- by index
    indices : AllPairs (λ (a b : ℕ × Offer). a.1.at.0 ≤ b.1.at.0) (enumerate_from 1 offers)
    indices i j e l inside =
        let j_in : j < length offers = omega (arith, inside, length-enumerate_from 1 offers) in
        let at_i = ap (λ (z : ℕ × Offer). z.1.at.0) (get_or-enumerate_from 1 offers i e (omega (arith, l, j_in))) in
        let at_j = ap (λ (z : ℕ × Offer). z.1.at.0) (get_or-enumerate_from 1 offers j e j_in) in
        omega (arith, at_i, at_j, ordered i j e.1 l j_in)

-- an offer's number is its position, from 1
number_is_index : (offers : List Offer) (x : Offered) (before after : List Offered) → numbered offers ≡ before ++ (x ∷ after) → length before < length offers →
    x.frame ≡ 1 + length before
number_is_index offers x before after parts inside =
    let d : ℕ × Offer = (x.frame, x.offer) in
    let k = length before in
    ap (λ (z : Offered). z.frame) (sym (ap (λ (zs : List Offered). get_or zs k x) parts ∙ get_or-append_seam before x after x))
    ∙ ap (λ (z : Offered). z.frame)
    (get_or-map the_offered (enumerate_from 1 offers) k d x (omega (arith, inside, length-enumerate_from 1 offers)))
    ∙ ap (λ (z : ℕ × Offer). z.0) (get_or-enumerate_from 1 offers k d inside)

-- there are as many numbered offers as offers
numbered_length : (offers : List Offer) → length (numbered offers) ≡ length offers
numbered_length offers = length-map (enumerate_from 1 offers) the_offered ∙ length-enumerate_from 1 offers

-- the pairs of a prefix
front_pairs : {X : Type 0} (R : X → X → Type 0) (xs ys : List X) → AllPairs R (xs ++ ys) → AllPairs R xs
front_pairs R xs ys all i j d l inside =
    subst (λ z. R z (get_or xs j d)) (get_or_append_left xs ys d i (omega (arith, l, inside)))
    (subst (λ z. R (get_or (xs ++ ys) i d) z) (get_or_append_left xs ys d j inside) (all i j d l (omega (arith, inside, length-append xs ys))))

module _ (offers : List Offer) (x : Offered) (ordered : StandInOrder offers) (inside : Contains (numbered offers) x) where
  -- the offer's instant
  abbrev t : ℕ
  t = x.offer.at.0

  -- whether an offer is at an instant
  abbrev at : ℕ → Offered → Bool
  at s y = y.offer.at.0 == s

  -- those that precede it in the list, and those that follow it
  split : (before after : List Offered) × (numbered offers ≡ before ++ (x ∷ after))
  split = parted_at (numbered offers) x inside

  abbrev first : List Offered
  first = split.0

  abbrev second : List Offered
  second = split.1

  abbrev not_later : Offered → Offered → Type 0
  not_later a b = a.offer.at.0 ≤ b.offer.at.0

  ascends : AllPairs not_later (first ++ (x ∷ second))
  ascends = subst (AllPairs not_later) split.2 (numbered_in_order offers ordered)

  -- what follows it is no earlier
  following : (y : Offered) → Contains (x ∷ second) y → t ≤ y.offer.at.0
  following y c = elim (contains_cases x second y c) [
    | inl e ↦ omega (arith, ap (λ (z : Offered). z.offer.at.0) e)
    | inr h ↦ pairs_head not_later x second y (pairs_second not_later first (x ∷ second) ascends) h
  ]

  -- the earlier ones precede it in the list
  earlier : each_below (offers_at offers) t ≡ each_below (λ (s : ℕ). filter (at s) first) t
  earlier = same_below (offers_at offers) (λ (s : ℕ). filter (at s) first) t (λ s l.
      ap (filter (at s)) split.2
      ∙ filter-append (at s) first (x ∷ second)
      ∙ ap (λ (ys : List Offered). filter (at s) first ++ ys)
      (filter_none (at s) (x ∷ second) (λ y c. ne_eqb y.offer.at.0 s (λ e. omega (arith, e, l, following y c))))
      ∙ append-nil (filter (at s) first))

  -- they are in order of instant
  first_ascends : IsNonDecreasingBy (λ (y : Offered). y.offer.at.0) first
  first_ascends i j d le l = elim (cases_lt i j) [
    | inl less ↦ front_pairs not_later first (x ∷ second) ascends i j d less l
    | inr same ↦ (let e : i ≡ j = omega (arith, le, same) in omega (arith, ap (λ (k : ℕ). (get_or first k d).offer.at.0) e))
  ]

  up_to : (y : Offered) → Contains first y → y.offer.at.0 < suc t
  up_to y c = omega (arith, pairs_across not_later first (x ∷ second) y x ascends c (contains_here x second))

  -- so the offers before it are those that precede it in the list
  before_is_first : offers_before offers x ≡ first
  before_is_first =
      ap₂ (λ (a b : List Offered). a ++ b) earlier (smaller_before offers x first second split.2)
      ∙ sym (by_key (λ (y : Offered). y.offer.at.0) (suc t) first first_ascends up_to)

  -- there are as many as its number says
  frame_is : x.frame ≡ 1 + length first
  frame_is = number_is_index offers x first second split.2
      (omega (arith, ap (λ (zs : List Offered). length zs) split.2, length-append first (x ∷ second), numbered_length offers))

  pub stand_before : offers_before offers x ≡ take (x.frame - 1) (numbered offers)
  stand_before =
      let count : length first ≡ x.frame - 1 = omega (arith, frame_is) in
      before_is_first ∙ sym (ap (take (x.frame - 1)) split.2 ∙ take_at first (x ∷ second) (x.frame - 1) count)

-- the law
pub offers_before_stand_before : OffersBeforeStandBefore
offers_before_stand_before offers x ordered inside = stand_before offers x ordered inside

-- one more offer is one more step
pub counters_go_on : CountersGoOn
counters_go_on d row cycle index offers x is =
    let xs = numbered offers in
    let step = take_octets d row cycle in
    let more = (take_at_read xs index x (slice_get_within xs index x is)).1 in
    let last : get_or xs index x ≡ x = get_or_from_slice_get xs index x x is in
    ap (λ (zs : List Offered). fold step 0 zs) (more ∙ ap (λ (z : Offered). take index xs ++ z ∷ []) last)
    ∙ fold-append step 0 (take index xs) (x ∷ [])

-- an offer of another cycle takes nothing
takes_none : (d : Domain) (row : Row) (cycle taken : ℕ) (y : Offered) → (offer_cycle d y == cycle) ≡ false → take_octets d row cycle taken y ≡ taken
takes_none d row cycle taken y e =
    ap (λ (b : Bool). if (b && is_text row.name y.offer.stream && begins_at d row y.offer.bridge) && nat_le (taken + counted_of d.overhead y.offer.octets) (reserved_in row 0 cycle)
    then taken + counted_of d.overhead y.offer.octets else taken) e

-- nor do several
take_none : (d : Domain) (row : Row) (cycle taken : ℕ) (xs : List Offered) → ((y : Offered) → Contains xs y → offer_cycle d y < cycle) →
    fold (take_octets d row cycle) taken xs ≡ taken
take_none d row cycle taken [] early = refl
take_none d row cycle taken (x ∷ xs) early =
    ap (λ (n : ℕ). fold (take_octets d row cycle) n xs)
    (takes_none d row cycle taken x (ne_eqb (offer_cycle d x) cycle (λ e. omega (arith, e, early x (contains_here x xs)))))
    ∙ take_none d row cycle taken xs (λ y c. early y (contains_later x xs y c))

-- so nothing is taken before the first offer of a cycle
pub counters_begin : CountersBegin
counters_begin d row cycle index offers early = take_none d row cycle 0 (take index (numbered offers)) early
