-- What is taken of a row before an offer is within what all offers of a cycle request.
use Rattle.std.proofs.Common.{◌≡◌, ℕ, ◌+◌, ◌<◌, ◌≤◌, ◌∷◌, [], List, Bool, true, false, Some, refl, sym, ap, ap₂, ◌∙◌, subst, arith}
use Rattle.std.proofs.Common.{Contains, filter, fold, sum_by, ◌==◌, ◌&&◌, eq-eqb, eqb-true, nat_le, nat_lt, if◌then◌else◌}
use Rattle.std.specs.List.{enumerate_from}
use Rattle.std.specs.Option.{option_map_or}
use Rattle.std.proofs.lemmas.Bool.{cond-true, ltb-true}
use Rattle.std.proofs.lemmas.List.Sums.{sum_by-append, sum_by-cons}
use Rattle.cqf_lists.specs.Lists.{each_below}
use Rattle.cqf_lists.proofs.Members.{find_member}
use Rattle.cqf_lists.proofs.Sums.{sum_by_keys, sum_filter, sum_indices, sum_le_members, sum_map, sum_member, sum_plus}
use Rattle.cqf_model.specs.declared.frames.Offer.{Offer}
use Rattle.cqf_model.specs.declared.frames.Offered.{Offered}
use Rattle.cqf_units.specs.Timing.{counted_of}
use Rattle.cqf_model.specs.declared.topology.Row.{Row}
use Rattle.cqf_model.specs.Domain.{Domain, cycle_of, is_text}
use Rattle.cqf_model.specs.Promise.{IsPolicedAs}
use Rattle.cqf_model.specs.Run.{Run}
use Rattle.cqf_model.specs.Shift.{IsCovered, claims, offer_cycle, offers_at, offers_before, take_octets}
use Rattle.cqf_model.specs.Table.{AreOrderly, begins_at, is_live, reserved_in, row_named, table_of}
use Rattle.cqf_model.specs.Policing.{Carried, DroppedFor, ExceedsGate, LacksRow, Queued, Verdict, numbered}
use Rattle.cqf_model.proofs.Texts.{is_text_same}
use Rattle.cqf_laws_shift.specs.Edge.{EdgeIsCovered}
use Rattle.cqf_laws_shift.proofs.Came.{one_number}
use Rattle.cqf_laws_shift.proofs.Covered.{and_three, three_and}
use Rattle.cqf_laws_shift.proofs.Decided.{covered_judged, uncovered_judged}
use Rattle.cqf_laws_timing.specs.Covered.{ConformingOwnIsCovered, ConformingStreamGoesOn, ConformingStreamIsCovered, IsAtItsEdge, is_own}
use Rattle.cqf_laws_timing.specs.Traffic.{Conforms, IsTraffic, Traffic, needed}
use Rattle.cqf_laws_timing.proofs.Fits.{conforming_offers_fit_a_cycle}

-- the octets that an offer requests of a row in a cycle: those that gates count
abbrev claimed : Domain → Row → ℕ → Offered → ℕ
claimed d row cycle y = if claims d row cycle y then counted_of d.overhead y.offer.octets else 0

-- what is taken is within what is requested
taken_within : (d : Domain) (row : Row) (cycle taken : ℕ) (xs : List Offered) →
    fold (take_octets d row cycle) taken xs ≤ taken + sum_by (claimed d row cycle) xs
taken_within d row cycle taken [] = omega arith
taken_within d row cycle taken (x ∷ xs) =
    omega (
      arith,
      taken_within d row cycle (take_octets d row cycle taken x) xs,
      sum_by-cons (claimed d row cycle) x xs,
      step (claims d row cycle x) (nat_le (taken + counted_of d.overhead x.offer.octets) (reserved_in row 0 cycle)) taken (counted_of d.overhead x.offer.octets),
    )
  where
    -- one offer takes no more than it requests
    step : (b c : Bool) (taken octets : ℕ) → (if b && c then taken + octets else taken) ≤ taken + (if b then octets else 0)
    step true true taken octets = omega arith
    step true false taken octets = omega arith
    step false c taken octets = omega arith

module _ (offers : List Offer) (x : Offered) (inside : Contains (numbered offers) x) (counts : Offered → ℕ) where
  -- an offer's count, if its instant is earlier
  abbrev earlier : Offered → ℕ
  earlier y = if nat_lt y.offer.at.0 x.offer.at.0 then counts y else 0

  -- an offer's count, if it is at the same instant with a smaller number
  abbrev smaller : Offered → ℕ
  smaller y = if nat_lt y.frame x.frame then counts y else 0

  abbrev together : Offered → ℕ
  together y = if y.offer.at.0 == x.offer.at.0 then smaller y else 0

  -- the offer itself
  abbrev itself : Offered → ℕ
  itself y = if y.frame == x.frame then counts y else 0

  -- the offers before one are those of earlier instants, and those of smaller numbers at the same instant
  sum_before : sum_by counts (offers_before offers x) ≡ sum_by earlier (numbered offers) + sum_by together (numbered offers)
  sum_before =
      let less = λ (y : Offered). nat_lt y.frame x.frame in
      let t = x.offer.at.0 in
      sum_by-append counts (each_below (offers_at offers) t) (filter less (offers_at offers t))
      ∙ ap₂ (λ a b. a + b) (sum_by_keys counts (λ (y : Offered). y.offer.at.0) (numbered offers) t)
      (sum_filter counts less (offers_at offers t) ∙ sum_filter smaller (λ (y : Offered). y.offer.at.0 == t) (numbered offers))

  -- no offer is of two of these kinds
  one_of_three : (a b c e : Bool) (v : ℕ) → (a ≡ true → b ≡ true → ⊥) → (a ≡ true → e ≡ true → ⊥) → (c ≡ true → e ≡ true → ⊥) →
      (if a then v else 0) + (if b then (if c then v else 0) else 0) + (if e then v else 0) ≤ v
  one_of_three true true c e v ab ae ce = absurd (ab refl refl)
  one_of_three true false c true v ab ae ce = absurd (ae refl refl)
  one_of_three true false c false v ab ae ce = omega arith
  one_of_three false true true true v ab ae ce = absurd (ce refl refl)
  one_of_three false true true false v ab ae ce = omega arith
  one_of_three false true false true v ab ae ce = omega arith
  one_of_three false true false false v ab ae ce = omega arith
  one_of_three false false c true v ab ae ce = omega arith
  one_of_three false false c false v ab ae ce = omega arith

  -- so with the offer itself they count no more than all
  pub before_and_itself : sum_by counts (offers_before offers x) + counts x ≤ sum_by counts (numbered offers)
  before_and_itself =
      let own = sum_member itself (numbered offers) x inside in
      let is : itself x ≡ counts x = cond-true (x.frame == x.frame) (counts x) 0 (eq-eqb x.frame x.frame refl) in
      let three = sum_plus (λ y. earlier y + together y) itself (numbered offers) in
      let two = sum_plus earlier together (numbered offers) in
      let all = sum_le_members (λ y. earlier y + together y + itself y) counts (numbered offers) (λ y c.
      one_of_three (nat_lt y.offer.at.0 x.offer.at.0) (y.offer.at.0 == x.offer.at.0) (nat_lt y.frame x.frame) (y.frame == x.frame) (counts y)
      (λ a b. omega (arith, ltb-true y.offer.at.0 x.offer.at.0 a, eqb-true y.offer.at.0 x.offer.at.0 b))
      (λ a e. let same = one_number offers y x c inside (eqb-true y.frame x.frame e) in
      omega (arith, ltb-true y.offer.at.0 x.offer.at.0 a, ap (λ (z : Offered). z.offer.at.0) same))
      (λ a e. omega (arith, ltb-true y.frame x.frame a, eqb-true y.frame x.frame e))) in
      omega (arith, sum_before, own, is, three, two, all)

-- numbering changes no sum
sum_numbered : (counts : Offer → ℕ) (offers : List Offer) → sum_by (λ (y : Offered). counts y.offer) (numbered offers) ≡ sum_by counts offers
sum_numbered counts offers =
    sum_map (λ (y : Offered). counts y.offer) (λ (e : ℕ × Offer). the_offered e) (enumerate_from 1 offers) ∙ sum_indices counts 1 offers
  where
    -- an offer with its number
    the_offered : ℕ × Offer → Offered
    the_offered e = record { frame = e.0; offer = e.1 }

module _ (run : Run) (t : Traffic) (x : Offered) (row : Row) (some : 0 < run.domain.cycle_time) (is : IsTraffic t)
    (enough : needed run.domain.overhead run.domain.cycle_time t ≤ reserved_in row 0 (offer_cycle run.domain x)) (at : IsAtItsEdge run x row) where
  -- the run's domain, and the offer's cycle
  abbrev d : Domain
  d = run.domain

  abbrev cycle : ℕ
  cycle = offer_cycle run.domain x

  -- the row has the name
  names : is_text row.name x.offer.stream ≡ true
  names = (find_member (λ (r : Row). is_text r.name x.offer.stream) (table_of run.tables cycle) row at.named).1

  -- the octets of an offer, if it is of the cycle
  abbrev octets_in : Offer → ℕ
  octets_in y = if cycle_of d y.at.0 == cycle then counted_of d.overhead y.octets else 0

  module _ (keeps : Offer → Bool) (c : Conforms t (filter keeps run.offers))
      (each : (y : Offer) → cycle_of d y.at.0 ≡ cycle → is_text row.name y.stream ≡ true → begins_at d row y.bridge ≡ true → keeps y ≡ true) where
    -- an offer that requests octets is among those that conform
    counted : (y : Offered) → claimed d row cycle y ≤ (if keeps y.offer then octets_in y.offer else 0)
    counted y = by_test (claims d row cycle y) (keeps y.offer) (cycle_of d y.offer.at.0 == cycle) (counted_of d.overhead y.offer.octets) (λ e.
        let three = and_three (cycle_of d y.offer.at.0 == cycle) (is_text row.name y.offer.stream) (begins_at d row y.offer.bridge) e in
        (each y.offer (eqb-true (cycle_of d y.offer.at.0) cycle three.0) three.1 three.2, three.0))
      where
        -- by the tests
        by_test : (a b c : Bool) (v : ℕ) → (a ≡ true → (b ≡ true) × (c ≡ true)) → (if a then v else 0) ≤ (if b then (if c then v else 0) else 0)
        by_test false b c v e = omega arith
        by_test true true true v e = omega arith
        by_test true true false v e = absurd (let h = (e refl).1 in cc)
        by_test true false c v e = absurd (let h = (e refl).0 in cc)

    -- so all together they request no more than is needed
    asked_within : sum_by (claimed d row cycle) (numbered run.offers) ≤ needed d.overhead d.cycle_time t
    asked_within =
        let fits = (conforming_offers_fit_a_cycle d.overhead d.cycle_time t (filter keeps run.offers) cycle some is c).octets in
        let less = sum_le_members (claimed d row cycle) (λ (y : Offered). if keeps y.offer then octets_in y.offer else 0) (numbered run.offers)
        (λ y k. counted y) in
        let same = sum_numbered (λ (y : Offer). if keeps y then octets_in y else 0) run.offers ∙ sym (sum_filter octets_in keeps run.offers)
        ∙ sym (sum_filter (λ (y : Offer). counted_of d.overhead y.octets) (λ (y : Offer). cycle_of d y.at.0 == cycle) (filter keeps run.offers)) in
        omega (arith, fits, less, same)

    -- and the offer is covered
    pub covered_by : IsCovered run x row
    covered_by =
        let before = offers_before run.offers x in
        let taken = taken_within d row cycle 0 before in
        let all = before_and_itself run.offers x at.offered (claimed d row cycle) in
        let own : claimed d row cycle x ≡ counted_of d.overhead x.offer.octets = cond-true (claims d row cycle x) (counted_of d.overhead x.offer.octets) 0
        (three_and (offer_cycle d x == cycle) (is_text row.name x.offer.stream) (begins_at d row x.offer.bridge) (eq-eqb cycle cycle refl) names
        at.first_bridge) in
        record {
          offered = at.offered;
          named = at.named;
          live = at.live;
          first_bridge = at.first_bridge;
          within = omega (arith, taken, all, own, asked_within, enough);
        }

  -- an offer that requests the row's octets is the row's own
  own_of : (y : Offer) → cycle_of d y.at.0 ≡ cycle → is_text row.name y.stream ≡ true → begins_at d row y.bridge ≡ true → is_own run row.no y ≡ true
  own_of y same named begins =
      let one = sym (is_text_same row.name x.offer.stream names) ∙ is_text_same row.name y.stream named in
      let found : row_named (table_of run.tables (cycle_of d y.at.0)) y.stream ≡ Some row =
      ap₂ (λ (c : ℕ) (name : List ℕ). row_named (table_of run.tables c) name) same (sym one) ∙ at.named in
      ap (λ o. option_map_or (λ (r : Row). (r.no == row.no) && is_live r (cycle_of d y.at.0) && begins_at d r y.bridge) o false) found
      ∙ three_and (row.no == row.no) (is_live row (cycle_of d y.at.0)) (begins_at d row y.bridge) (eq-eqb row.no row.no refl)
      (ap (is_live row) same ∙ at.live) begins

-- the laws
pub conforming_stream_is_covered : ConformingStreamIsCovered
conforming_stream_is_covered run t x row some is c enough at =
    covered_by run t x row some is enough at (λ (y : Offer). is_text row.name y.stream) c (λ y same named begins. named)

pub conforming_own_is_covered : ConformingOwnIsCovered
conforming_own_is_covered run t x row some is c enough at =
    covered_by run t x row some is enough at (is_own run row.no) c (own_of run t x row some is enough at)

-- a covered offer has no other verdict
pub covered_goes_on : EdgeIsCovered → (run : Run) (carried : Carried) (end : ℕ) (x : Offered) (row : Row) → 0 < run.domain.cycle_time →
    AreOrderly run.domain run.tables → IsCovered run x row → x.offer.at.0 < end → IsPolicedAs run carried end x (Queued row)
covered_goes_on edge run carried end x row some orderly covered early =
    let p = edge run carried end x some orderly covered.offered early in by_verdict p.0 p.1
  where
    -- this holds for any verdict
    by_verdict : (verdict : Verdict) → IsPolicedAs run carried end x verdict → IsPolicedAs run carried end x (Queued row)
    by_verdict (Queued other) p =
        let same : Queued other ≡ Queued row = sym (covered_judged run x other p.decided) ∙ covered_judged run x row covered in
        subst (IsPolicedAs run carried end x) same p
    by_verdict (DroppedFor reason) p =
        let same : DroppedFor reason ≡ Queued row = sym (uncovered_judged run x reason p.decided) ∙ covered_judged run x row covered in
        absurd cc
    by_verdict LacksRow p = absurd p.decided
    by_verdict ExceedsGate p = absurd p.decided

pub conforming_stream_goes_on : EdgeIsCovered → ConformingStreamGoesOn
conforming_stream_goes_on edge run carried end t x row some orderly is c enough at early =
    covered_goes_on edge run carried end x row some orderly (conforming_stream_is_covered run t x row some is c enough at) early
