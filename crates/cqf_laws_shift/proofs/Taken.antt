-- What is taken of a reservation is the octets of the covered offers.
use Rattle.cqf_model.specs.Table.{reserved_in}
use Rattle.std.proofs.Common.{◌≡◌, ℕ, ◌+◌, ◌<◌, ◌≤◌, ◌∷◌, [], ◌++◌, List, Bool, true, false, inl, inr, sym, ap, ◌∙◌, subst, arith, refl, AllPairs, Contains}
use Rattle.std.proofs.Common.{filter, fold, sum_by, ◌==◌, ◌&&◌, eq-eqb, eqb-true, nat_le, nat_lt, leb-true, le-leb, if◌then◌else◌, append_assoc, append-nil}
use Rattle.std.proofs.lemmas.Bool.{cond-true, and_from, and_parts, false≢true}
use Rattle.std.proofs.lemmas.List.Elements.{Contains-append_cases, Contains-append_right, filter-append}
use Rattle.std.proofs.lemmas.List.Kept.{AllPairs-filter}
use Rattle.std.proofs.lemmas.List.Sums.{fold_push, sum_by_push}
use Rattle.cqf_model.specs.declared.frames.Offer.{Offer}
use Rattle.cqf_model.specs.declared.frames.Offered.{Offered}
use Rattle.cqf_units.specs.Timing.{counted_of}
use Rattle.cqf_model.specs.declared.topology.Row.{Row}
use Rattle.cqf_model.specs.Domain.{Domain, is_text}
use Rattle.cqf_lists.specs.Lists.{each_below}
use Rattle.cqf_model.specs.Table.{begins_at, is_live, row_named, table_of}
use Rattle.cqf_model.specs.Policing.{numbered}
use Rattle.cqf_model.specs.Shift.{claims, offer_cycle, offers_at, offers_before, take_octets, taken_by}
use Rattle.cqf_laws_shift.specs.Edge.{IsCoveredIn, TakenIsCovered}
use Rattle.cqf_lists.proofs.Members.{contains_here, contains_from_filter, find_member, parted_at}
use Rattle.cqf_lists.proofs.EachBelow.{contains_from_below, parted_below}
use Rattle.cqf_lists.proofs.Pairs.{one_parting, pairs_below}
use Rattle.cqf_laws_shift.proofs.Came.{numbers_ascend, one_number}
use Rattle.cqf_laws_shift.proofs.Covered.{and_three, found_by_name, three_and}
use Rattle.cqf_laws_shift.proofs.Decided.{smaller_before}

-- two offers have different numbers
abbrev Apart : Offered → Offered → Type 0
Apart a b = a.frame ≡ b.frame → ⊥

-- in order of instant, then number, exactly the offers before an offer precede it
offers_parted : (offers : List Offer) (z : Offered) (n : ℕ) → Contains (numbered offers) z → z.offer.at.0 < n → (after : List Offered) ×
    (each_below (offers_at offers) n ≡ offers_before offers z ++ (z ∷ after))
offers_parted offers z n inside early =
    let t = z.offer.at.0 in
    let here : Offered → Bool = λ y. y.offer.at.0 == t in
    let rest = parted_below (offers_at offers) t n early in
    let split = parted_at (numbered offers) z inside in
    let at_once : offers_at offers t ≡ filter here split.0 ++ (z ∷ filter here split.1) =
    ap (filter here) split.2 ∙ filter-append here split.0 (z ∷ split.1)
    ∙ ap (λ w. filter here split.0 ++ w) (cond-true (here z) (z ∷ filter here split.1) (filter here split.1) (eq-eqb t t refl)) in (
      filter here split.1 ++ rest.0,
      rest.1 ∙ ap (λ w. each_below (offers_at offers) t ++ (w ++ rest.0)) at_once
          ∙ joined (each_below (offers_at offers) t) (filter here split.0) z (filter here split.1) rest.0
          ∙ ap (λ w. (each_below (offers_at offers) t ++ w) ++ (z ∷ (filter here split.1 ++ rest.0))) (sym (smaller_before offers z split.0 split.1 split.2)),
    )
  where
    -- concatenation is associative around an element
    joined : (a b : List Offered) (y : Offered) (c r : List Offered) → a ++ ((b ++ (y ∷ c)) ++ r) ≡ (a ++ b) ++ (y ∷ (c ++ r))
    joined a b y c r = simp append_assoc

-- and none occurs there twice
offers_apart : (offers : List Offer) (n : ℕ) → AllPairs Apart (each_below (offers_at offers) n)
offers_apart offers n = pairs_below Apart (offers_at offers) n (λ t l. within t) across
  where
    -- no number occurs twice among the offers of an instant
    within : (t : ℕ) → AllPairs Apart (offers_at offers t)
    within t i j e l inside same =
        absurd (omega (
          arith,
          same,
          AllPairs-filter (λ (a b : Offered). a.frame < b.frame) (λ (y : Offered). y.offer.at.0 == t) (numbered offers)
              (numbers_ascend offers) i j e l inside,
        ))

    -- nor among the offers of two instants
    across : (s t : ℕ) (a b : Offered) → s < t → t < n → Contains (offers_at offers s) a → Contains (offers_at offers t) b → Apart a b
    across s t a b less l ca cb same =
        let fa = contains_from_filter (λ (y : Offered). y.offer.at.0 == s) (numbered offers) a ca in
        let fb = contains_from_filter (λ (y : Offered). y.offer.at.0 == t) (numbered offers) b cb in
        let one = one_number offers a b fa.0 fb.0 same in
        absurd (omega (arith, less, eqb-true a.offer.at.0 s fa.1, eqb-true b.offer.at.0 t fb.1, ap (λ (z : Offered). z.offer.at.0) one))

-- an offer before another is one of the offers, and no later
before_member : (offers : List Offer) (x z : Offered) → Contains (offers_before offers x) z → Contains (numbered offers) z × (z.offer.at.0 ≤ x.offer.at.0)
before_member offers x z c =
    elim (Contains-append_cases (each_below (offers_at offers) x.offer.at.0)
    (filter (λ (y : Offered). nat_lt y.frame x.frame) (offers_at offers x.offer.at.0)) z c) [
      | inl first ↦
          let t = contains_from_below (offers_at offers) x.offer.at.0 z first in
          let f = contains_from_filter (λ (y : Offered). y.offer.at.0 == t.0) (numbered offers) z t.2 in
          (f.0, omega (arith, t.1, eqb-true z.offer.at.0 t.0 f.1))
      | inr second ↦
          let f = contains_from_filter (λ (y : Offered). y.offer.at.0 == x.offer.at.0) (numbered offers) z
          (contains_from_filter (λ (y : Offered). nat_lt y.frame x.frame) (offers_at offers x.offer.at.0) z second).0 in
          (f.0, omega (arith, eqb-true z.offer.at.0 x.offer.at.0 f.1))
    ]

-- if z is among the offers before x, those that precede z there are exactly the offers before z
before_those : (offers : List Offer) (x : Offered) → Contains (numbered offers) x → (before : List Offered) (z : Offered) (after : List Offered) →
    offers_before offers x ≡ before ++ (z ∷ after) → before ≡ offers_before offers z
before_those offers x inside before z after parts =
    let n = x.offer.at.0 + 1 in
    let member = before_member offers x z (subst (λ w. Contains w z) (sym parts) (Contains-append_right before (z ∷ after) z (contains_here z after))) in
    let whole = offers_parted offers x n inside (omega arith) in
    let there = offers_parted offers z n member.0 (omega (arith, member.1)) in
    let longer : each_below (offers_at offers) n ≡ before ++ (z ∷ (after ++ (x ∷ whole.0))) = whole.1 ∙ ap (λ w. w ++ (x ∷ whole.0)) parts
    ∙ append_assoc before (z ∷ after) (x ∷ whole.0) in
    one_parting Apart z before (offers_before offers z) (after ++ (x ∷ whole.0)) there.0 (subst (λ w. AllPairs Apart w) longer (offers_apart offers n))
    (λ apart. apart refl) (sym longer ∙ there.1)

-- a fold that adds a count at each element is the sum of the counts
fold_counts : {X : Type 0} (step : ℕ → X → ℕ) (counts : X → ℕ) (before after : List X) →
    ((first : List X) (z : X) (last : List X) → before ++ after ≡ first ++ (z ∷ last) → step (fold step 0 first) z ≡ fold step 0 first + counts z) →
    fold step 0 before ≡ sum_by counts before → fold step 0 (before ++ after) ≡ sum_by counts (before ++ after)
fold_counts step counts before [] each so_far = ap (fold step 0) (append-nil before) ∙ so_far ∙ ap (sum_by counts) (sym (append-nil before))
fold_counts {X} step counts before (z ∷ after) each so_far =
    let same : (before ++ z ∷ []) ++ after ≡ before ++ (z ∷ after) = append_assoc before (z ∷ []) after in
    let more : fold step 0 (before ++ z ∷ []) ≡ sum_by counts (before ++ z ∷ []) = fold_push step 0 before z ∙ each before z after refl
    ∙ ap (λ w. w + counts z) so_far ∙ sym (sum_by_push counts before z) in
    ap (fold step 0) (sym same) ∙ fold_counts step counts (before ++ z ∷ []) after (λ first y last parts. each first y last (sym same ∙ parts)) more
    ∙ ap (sum_by counts) same

-- the law
pub taken_is_covered : TakenIsCovered
taken_is_covered run row cycle x counts orderly inside live here counted =
    fold_counts (take_octets d row cycle) counts [] (offers_before run.offers x) each refl
  where
    -- the run's domain
    d : Domain
    d = run.domain

    -- whether an offer requires octets of the row in the cycle, and no more than are left
    tests : Offered → ℕ → Bool
    tests z taken = claims d row cycle z && nat_le (taken + counted_of d.overhead z.offer.octets) (reserved_in row 0 cycle)

    -- an offer that passes after what those before it take is covered by the row in the cycle
    covers : (z : Offered) → Contains (numbered run.offers) z → tests z (taken_by d row cycle (offers_before run.offers z)) ≡ true → IsCoveredIn run row cycle z
    covers z member t =
        let both = and_parts (claims d row cycle z) (nat_le (taken_by d row cycle (offers_before run.offers z) + counted_of d.overhead z.offer.octets) (reserved_in row 0 cycle)) t in
        let three = and_three (offer_cycle d z == cycle) (is_text row.name z.offer.stream) (begins_at d row z.offer.bridge) both.0 in
        let same = eqb-true (offer_cycle d z) cycle three.0 in
        record {
          covered = record {
            offered = member;
            named = ap (λ c. row_named (table_of run.tables c) z.offer.stream) same
                ∙ found_by_name d run.tables orderly cycle row z.offer.stream inside three.1;
            live = ap (is_live row) same ∙ live;
            first_bridge = three.2;
            within = subst (λ c. taken_by d row c (offers_before run.offers z) + counted_of d.overhead z.offer.octets ≤ reserved_in row 0 c) (sym same)
                (leb-true (taken_by d row cycle (offers_before run.offers z) + counted_of d.overhead z.offer.octets) (reserved_in row 0 cycle) both.1);
          };
          in_cycle = same;
        }

    -- an offer that the row covers in the cycle passes after what those before it take
    tested : (z : Offered) → IsCoveredIn run row cycle z → tests z (taken_by d row cycle (offers_before run.offers z)) ≡ true
    tested z c =
        let named = (find_member (λ (r : Row). is_text r.name z.offer.stream) (table_of run.tables (offer_cycle d z)) row c.covered.named).1 in
        and_from (claims d row cycle z) (nat_le (taken_by d row cycle (offers_before run.offers z) + counted_of d.overhead z.offer.octets) (reserved_in row 0 cycle))
        (three_and (offer_cycle d z == cycle) (is_text row.name z.offer.stream) (begins_at d row z.offer.bridge)
        (eq-eqb (offer_cycle d z) cycle c.in_cycle) named c.covered.first_bridge)
        (le-leb (taken_by d row cycle (offers_before run.offers z) + counted_of d.overhead z.offer.octets) (reserved_in row 0 cycle)
        (subst (λ c. taken_by d row c (offers_before run.offers z) + counted_of d.overhead z.offer.octets ≤ reserved_in row 0 c) c.in_cycle c.covered.within))

    -- if the count is the octets exactly if the test passes, and else 0, what is taken grows by the count
    by_test : (b : Bool) (taken octets count : ℕ) → (b ≡ true → count ≡ octets) → (b ≡ false → count ≡ 0) →
        (if b then taken + octets else taken) ≡ taken + count
    by_test true taken octets count passed failed = omega (arith, passed refl)
    by_test false taken octets count passed failed = omega (arith, failed refl)

    -- each offer before this one adds its count to what is taken
    each : (first : List Offered) (z : Offered) (last : List Offered) → offers_before run.offers x ≡ first ++ (z ∷ last) →
        take_octets d row cycle (taken_by d row cycle first) z ≡ taken_by d row cycle first + counts z
    each first z last parts =
        let same : first ≡ offers_before run.offers z = before_those run.offers x here first z last parts in
        let member = (before_member run.offers x z
        (subst (λ w. Contains w z) (sym parts) (Contains-append_right first (z ∷ last) z (contains_here z last)))).0 in
        subst (λ w. take_octets d row cycle (taken_by d row cycle w) z ≡ taken_by d row cycle w + counts z) (sym same)
        (by_test (tests z (taken_by d row cycle (offers_before run.offers z))) (taken_by d row cycle (offers_before run.offers z)) (counted_of d.overhead z.offer.octets) (counts z)
        (λ t. counted.covered z (covers z member t)) (λ f. counted.others z member (λ c. false≢true (sym f ∙ tested z c))))
