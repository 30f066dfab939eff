-- One more offer is judged.
use Rattle.std.proofs.Common.{◌≡◌, ◌≢◌, ℕ, ◌+◌, ◌-◌, ◌/◌, ◌<◌, ◌≤◌, ◌∷◌, [], ◌++◌, List, true, Option, Some, None}
use Rattle.std.proofs.Common.{inl, inr, Ok, Err, Result, refl, sym, ap, ◌∙◌, subst, arith, length, take, find, AllPairs}
use Rattle.std.proofs.Common.{Contains, get_or, nat_le, ◌&&◌, if◌then◌else◌}
use Rattle.std.specs.Prelude.{slice_get, slice_set}
use Rattle.std.proofs.lemmas.Bool.{cases_eq, cases_lt}
use Rattle.std.proofs.lemmas.List.{get_or-set_other, get_or-set_same, length-append, length-set}
use Rattle.std.proofs.lemmas.Grind.{take_at_read}
use Rattle.std.proofs.lemmas.Option.{get_or_from_slice_get, none-some, same_Some, slice_get_read, slice_get_within}
use Rattle.cqf_units.proofs.Cycles.{cycles_ordered}
use Rattle.cqf_lists.proofs.Members.{contains_at, index_of_member}
use Rattle.cqf_lists.proofs.Indices.{slice_get_after, slice_get_front, slice_get_parts}
use Rattle.cqf_units.specs.Timing.{counted_of}
use Rattle.cqf_model.specs.declared.frames.Offer.{Offer}
use Rattle.cqf_model.specs.declared.frames.Offered.{Offered}
use Rattle.cqf_model.specs.declared.frames.Reason.{Reason}
use Rattle.cqf_model.specs.declared.topology.Row.{Row}
use Rattle.cqf_model.specs.Domain.{Domain, is_text}
use Rattle.cqf_model.specs.History.{IsLegalHistory, Recorded, seals, streams_of}
use Rattle.cqf_model.specs.Shift.{offer_cycle, take_octets, taken_by}
use Rattle.cqf_model.specs.Table.{begins_at, is_held, is_live, reserved_in}
use Rattle.cqf_model.specs.Policing.{numbered}
use Rattle.cqf_laws_coverage.specs.Judged.{CounterOfTheRow, CountersBegin, CountersGoOn, CountersOfOthers, StandInOrder, judged_by, judged_of, used_before}
use Rattle.cqf_laws_coverage.specs.Rows.{EndsBefore, OneIsInForce, RowsOfANameFollow, RowsStandAsTheyBegin, row_in_force}
use Rattle.cqf_instants_run.specs.declared.judged.EdgeVerdict.{EdgeVerdict}
use Rattle.cqf_instants_run.specs.declared.judged.Used.{Used}
use Rattle.cqf_instants_run.specs.Begun.{HasBegun, IsInForce}
use Rattle.cqf_instants_run.specs.Coverage.{AreJudged, IsJudged, JudgedAt, JudgedFor, used_after, used_at, verdict_of}
use Rattle.cqf_instants_run.proofs.Covers.{AreUsed, CoversTo, IsFor, fresh, live_held, numbered_at, other_counter, own_counter, own_verdict}
use Rattle.cqf_instants_run.proofs.InForce.{found, row_there}
use Rattle.cqf_instants_run.proofs.LastRows.{one_there}

-- the laws that it uses
pub record Laws : Type 1 where
  pub follow : RowsOfANameFollow
  pub rise : RowsStandAsTheyBegin
  pub one : OneIsInForce
  pub goes_on : CountersGoOn
  pub begins : CountersBegin
  pub own : CounterOfTheRow
  pub others : CountersOfOthers

module _ (d : Domain) (rows : List Row) (offers : List Offer) (p begun : ℕ) (index_of : List ℕ → Option ℕ) (used : List Used) (edge_verdicts : List EdgeVerdict)
    (before : CoversTo d rows offers p begun index_of used edge_verdicts) (offer : Offer) (at : slice_get offers p ≡ Some offer) (some : 0 < d.cycle_time)
    (order : StandInOrder offers) (cycle to : ℕ) (is_cycle : cycle ≡ offer.at.0 / d.cycle_time) (after_of : List ℕ → Option ℕ)
    (has : HasBegun rows begun to cycle after_of)
    (after : List Used) (edge_verdict : EdgeVerdict) (judged : IsJudged d rows to cycle offer used after edge_verdict) (laws : Laws) where
  -- the offer with its number
  abbrev x : Offered
  x = record { frame = p + 1; offer = offer }

  there : slice_get (numbered offers) p ≡ Some x
  there = numbered_at offers p offer at

  on : before.cycle ≤ cycle
  on = omega (arith, before.ahead offer at, is_cycle)

  begun_by : (k : ℕ) (row : Row) → k < to → slice_get rows k ≡ Some row → row.admitted.0 ≤ cycle
  begun_by k row below is = elim (cases_lt k begun) [
    | inl early ↦ omega (arith, before.begun_by k row early is, on)
    | inr late ↦ has.begins.begun k row late below is
  ]

  -- one of the offers so far, or this one
  passed : (y : Offered) → Contains (take (p + 1) (numbered offers)) y → offer_cycle d y ≤ cycle
  passed y inside =
      let xs = numbered offers in
      let within = slice_get_within xs p x there in
      let more : take (p + 1) xs ≡ take p xs ++ x ∷ [] =
      (take_at_read xs p x within).1 ∙ ap (λ (z : Offered). take p xs ++ z ∷ []) (get_or_from_slice_get xs p x x there) in
      let found = index_of_member (take p xs ++ x ∷ []) y (subst (λ (zs : List Offered). Contains zs y) more inside) in
      elim (slice_get_parts (take p xs) (x ∷ []) found.0 y found.1) [
        | inl early ↦ omega (arith, before.passed y (contains_at (take p xs) found.0 y early), on)
        | inr here ↦ omega (arith, is_cycle, ap (λ (z : Offered). z.offer.at.0 / d.cycle_time) (only here.0 here.2))
      ]
    where
      only : (k : ℕ) → slice_get (x ∷ []) k ≡ Some y → x ≡ y
      only k is = elim (cases_eq k 0) [
        | inl e ↦ same_Some x y (ap (slice_get (x ∷ [])) (sym e) ∙ is)
        | inr n ↦ absurd (omega (arith, n, slice_get_within (x ∷ []) k y is))
      ]

  ahead : (next : Offer) → slice_get offers (p + 1) ≡ Some next → cycle ≤ next.at.0 / d.cycle_time
  ahead next is =
      let here = get_or_from_slice_get offers p offer next at in
      let following = get_or_from_slice_get offers (p + 1) next next is in
      let later : offer.at.0 ≤ next.at.0 =
      omega (
        arith,
        order p (p + 1) next (omega arith) (slice_get_within offers (p + 1) next is),
        ap (λ (o : Offer). o.at.0) here,
        ap
            (λ (o : Offer). o.at.0) following,
      ) in
      omega (arith, is_cycle, cycles_ordered d.cycle_time offer.at.0 next.at.0 some later)

  module _ (entries : List Recorded) (legal : IsLegalHistory d entries) (is : streams_of d entries ≡ rows) where
    -- what is used before this offer, in its cycle
    counted_now : AreUsed d entries rows offers p cycle used
    counted_now k row row_is live closed = elim (cases_eq before.cycle cycle) [
      | inl e ↦ subst (λ z. AreUsed d entries rows offers p z used) e (before.for_each entries legal is).counted k row row_is live closed
      | inr n ↦ laws.begins d row cycle p offers (λ y inside. omega (arith, n, on, before.passed y inside))
          ∙ sym (fresh used before.cycle cycle k before.stamps (omega (arith, n, on)) (omega (arith, before.counters, slice_get_within rows k row row_is)))
    ]

    -- the row in force
    in_force : (o : Option ℕ) → IsInForce rows to offer.stream cycle o → row_in_force d entries cycle offer.stream ≡ row_there rows o
    in_force o is_in_force =
        ap (find (λ (row : Row). is_text row.name offer.stream && is_held row cycle)) is
        ∙ found rows to cycle offer.stream
        (subst (AllPairs (λ (a b : Row). a.name ≡ b.name → EndsBefore a b)) is (laws.follow d entries legal))
        (subst (AllPairs (λ (a b : Row). a.admitted.0 ≤ b.admitted.0)) is (laws.rise d entries))
        begun_by has.next has.begins.within after_of has.begins.leads o is_in_force

    member : (k : ℕ) (row : Row) → slice_get rows k ≡ Some row → Contains (streams_of d entries) row
    member k row row_is = subst (λ rs. Contains rs row) (sym is) (contains_at rows k row row_is)

    -- two rows that are held at once have two names
    apart : (i j : ℕ) (a b : Row) → i < j → slice_get rows i ≡ Some a → slice_get rows j ≡ Some b → is_held a cycle ≡ true → is_held b cycle ≡ true →
        cycle < seals entries → a.name ≢ b.name
    apart i j a b less a_is b_is a_held b_held closed =
        let pairs = subst (AllPairs (λ (a b : Row). is_held a cycle ≡ true → is_held b cycle ≡ true → a.name ≢ b.name)) is
        (laws.one d entries cycle legal closed) in
        let here = get_or_from_slice_get rows i a a a_is in
        let following = get_or_from_slice_get rows j b a b_is in
        subst (λ (r : Row). is_held a cycle ≡ true → is_held r cycle ≡ true → a.name ≢ r.name) following
        (subst (λ (r : Row). is_held r cycle ≡ true → is_held (get_or rows j a) cycle ≡ true → r.name ≢ (get_or rows j a).name) here
        (pairs i j a less (slice_get_within rows j b b_is))) a_held b_held

    -- how an offer changes what is used of a row
    step : (row : Row) →
        taken_by d row cycle (take (p + 1) (numbered offers)) ≡ take_octets d row (offer_cycle d x) (taken_by d row cycle (take p (numbered offers))) x
    step row =
        laws.goes_on d row cycle p offers x there
        ∙ ap (λ c. take_octets d row c (taken_by d row cycle (take p (numbered offers))) x) is_cycle

    -- a row reserves the same in the offer's cycle and in this one
    in_own_cycle : (row : Row) (n : ℕ) →
        (if begins_at d row offer.bridge && nat_le (n + counted_of d.overhead offer.octets) (reserved_in row 0 (offer_cycle d x)) then n + counted_of d.overhead offer.octets else n)
        ≡ (if begins_at d row offer.bridge && nat_le (n + counted_of d.overhead offer.octets) (reserved_in row 0 cycle) then n + counted_of d.overhead offer.octets else n)
    in_own_cycle row n =
        ap (λ (m : ℕ). if begins_at d row offer.bridge && nat_le (n + counted_of d.overhead offer.octets) (reserved_in row 0 m) then n + counted_of d.overhead offer.octets else n) (sym is_cycle)

    -- nothing is used of rows that aren't in force
    other_row : (row : Row) (k : ℕ) → slice_get rows k ≡ Some row → is_live row cycle ≡ true → cycle < seals entries →
        (row_in_force d entries cycle offer.stream ≡ Some row → ⊥) →
        taken_by d row cycle (take (p + 1) (numbered offers)) ≡ used_at used cycle k
    other_row row k row_is live closed not_it =
        step row
        ∙ laws.others d entries x row (taken_by d row cycle (take p (numbered offers))) legal
        (subst (λ c. c < seals entries) is_cycle closed) (member k row row_is) (ap (is_held row) (sym is_cycle) ∙ live_held row cycle live)
        (λ e. not_it (ap (λ c. row_in_force d entries c offer.stream) is_cycle ∙ e))
        ∙ counted_now k row row_is live closed

    counted_then : (o : Option ℕ) → row_in_force d entries cycle offer.stream ≡ row_there rows o → IsInForce rows to offer.stream cycle o →
        JudgedAt d rows cycle offer used after edge_verdict o → AreUsed d entries rows offers (p + 1) cycle after
    counted_then None force in_force_is by_row k row row_is live closed =
        other_row row k row_is live closed (λ e. none-some row (sym force ∙ e)) ∙ ap (λ us. used_at us cycle k) (sym by_row.same)
    counted_then (Some index) force in_force_is by_row k row row_is live closed = elim (cases_eq k index) [
      | inl e ↦ (let own : by_row.row ≡ row = one_there rows index by_row.row row by_row.is (ap (slice_get rows) (sym e) ∙ row_is) in
          let same = counted_now k row row_is live closed in
          step row
          ∙ laws.own d entries x row (taken_by d row cycle (take p (numbered offers)))
          (ap (λ c. row_in_force d entries c offer.stream) (sym is_cycle) ∙ force ∙ by_row.is ∙ ap Some own)
          ∙ in_own_cycle row (taken_by d row cycle (take p (numbered offers)))
          ∙ ap (λ n. if begins_at d row offer.bridge && nat_le (n + counted_of d.overhead offer.octets) (reserved_in row 0 cycle) then n + counted_of d.overhead offer.octets else n) (same ∙ ap (used_at used cycle) e)
          ∙ own_counter cycle index used after edge_verdict (is_live row cycle) (begins_at d row offer.bridge)
          (nat_le (used_at used cycle index + counted_of d.overhead offer.octets) (reserved_in row 0 cycle)) (used_at used cycle index + counted_of d.overhead offer.octets) live
          (omega (arith, before.counters, slice_get_within rows index by_row.row by_row.is))
          (subst (λ (r : Row). JudgedFor cycle index used after edge_verdict (used_after d r cycle (used_at used cycle index) offer)) own by_row.judged)
          ∙ ap (used_at after cycle) (sym e))
      | inr n ↦ other_row row k row_is live closed (λ e. not_two index k by_row.row row n by_row.is row_is
          (same_Some by_row.row row (sym by_row.is ∙ sym force ∙ e)) live closed)
          ∙ sym (other_counter cycle index k used after edge_verdict (used_after d by_row.row cycle (used_at used cycle index) offer) n by_row.judged)
    ]
      where
        not_two : (i j : ℕ) (a b : Row) → j ≢ i → slice_get rows i ≡ Some a → slice_get rows j ≡ Some b → a ≡ b → is_live b cycle ≡ true →
            cycle < seals entries → ⊥
        not_two i j a b n a_is b_is e live closed =
            let b_held = live_held b cycle live in
            let a_held = ap (λ (r : Row). is_held r cycle) e ∙ b_held in
            elim (cases_lt i j) [
              | inl less ↦ apart i j a b less a_is b_is a_held b_held closed (ap (λ (r : Row). r.name) e)
              | inr more ↦ apart j i b a (omega (arith, n, more)) b_is a_is b_held a_held closed (ap (λ (r : Row). r.name) (sym e))
            ]

    -- and the verdict is that of the definitions
    verdict_then : (o : Option ℕ) → row_in_force d entries cycle offer.stream ≡ row_there rows o → JudgedAt d rows cycle offer used after edge_verdict o →
        cycle < seals entries → verdict_of rows (offer_cycle d x) edge_verdict ≡ judged_of d entries offers x
    verdict_then None force by_row closed =
        ap (verdict_of rows (offer_cycle d x)) by_row.dropped
        ∙ sym (ap (judged_by d (offer_cycle d x) (used_before d offers x) x) (ap (λ c. row_in_force d entries c offer.stream) (sym is_cycle) ∙ force))
    verdict_then (Some index) force by_row closed =
        let row = by_row.row in
        let number : x.frame - 1 ≡ p = omega arith in
        let before_it : taken_by d row cycle (take p (numbered offers)) ≡ used_before d offers x row =
        ap (λ c. taken_by d row c (take p (numbered offers))) is_cycle ∙ ap (λ n. taken_by d row (offer_cycle d x) (take n (numbered offers))) (sym number) in
        ap (λ c. verdict_of rows c edge_verdict) (sym is_cycle)
        ∙ own_verdict rows cycle index row used after edge_verdict (is_live row cycle) (begins_at d row offer.bridge)
        (nat_le (used_at used cycle index + counted_of d.overhead offer.octets) (reserved_in row 0 cycle)) (nat_le (used_before d offers x row + counted_of d.overhead offer.octets) (reserved_in row 0 cycle))
        (used_at used cycle index + counted_of d.overhead offer.octets) by_row.is
        (λ live. ap (λ n. nat_le (n + counted_of d.overhead offer.octets) (reserved_in row 0 cycle)) (sym (counted_now index row by_row.is live closed) ∙ before_it)) by_row.judged
        ∙ ap (λ c. judged_by d c (used_before d offers x) x (Some row)) is_cycle
        ∙ sym (ap (judged_by d (offer_cycle d x) (used_before d offers x) x)
        (ap (λ c. row_in_force d entries c offer.stream) (sym is_cycle) ∙ force ∙ by_row.is))

    judged_then : AreJudged d entries rows offers (p + 1) (edge_verdicts ++ edge_verdict ∷ [])
    judged_then =
        let all = before.for_each entries legal is in
        let force = in_force judged.index judged.in_force in
        record {
          count = omega (arith, length-append edge_verdicts (edge_verdict ∷ []), all.judged.count);
          each = λ q y j below y_is j_is closed. elim (cases_eq q p) [
            | inl e ↦ (let same_offer : x ≡ y = same_Some x y (sym there ∙ ap (slice_get (numbered offers)) (sym e) ∙ y_is) in
                let same_one : edge_verdict ≡ j = same_Some edge_verdict j
                (sym (slice_get_after edge_verdicts edge_verdict [] q (omega (arith, e, all.judged.count))) ∙ j_is) in
                let c : cycle < seals entries = subst (λ n. n < seals entries) (ap (offer_cycle d) (sym same_offer) ∙ sym is_cycle) closed in
                ap (λ (z : Offered). verdict_of rows (offer_cycle d z) j) (sym same_offer)
                ∙ ap (verdict_of rows (offer_cycle d x)) (sym same_one)
                ∙ verdict_then judged.index force judged.by_row c
                ∙ ap (judged_of d entries offers) same_offer)
            | inr n ↦ all.judged.each q y j (omega (arith, n, below)) y_is
                (sym (slice_get_front edge_verdicts (edge_verdict ∷ []) q (omega (arith, n, below, all.judged.count))) ∙ j_is) closed
          ];
        }

    for_this : IsFor d entries rows offers (p + 1) cycle after (edge_verdicts ++ edge_verdict ∷ [])
    for_this = record {
      judged = judged_then;
      counted = counted_then judged.index (in_force judged.index judged.in_force) judged.in_force judged.by_row;
    }

  -- there are as many counters as before, and none is of a later cycle
  counters_then : (o : Option ℕ) → JudgedAt d rows cycle offer used after edge_verdict o →
      (length after ≡ length used) × ((k : ℕ) (u : Used) → slice_get after k ≡ Some u → u.cycle ≤ cycle)
  counters_then None by_row =
      (ap length by_row.same, λ k u is. omega (arith, before.stamps k u (sym (ap (λ us. slice_get us k) by_row.same) ∙ is), on))
  counters_then (Some index) by_row = by (used_after d by_row.row cycle (used_at used cycle index) offer) by_row.judged
    where
      by : (r : Result ℕ Reason) → JudgedFor cycle index used after edge_verdict r →
          (length after ≡ length used) × ((k : ℕ) (u : Used) → slice_get after k ≡ Some u → u.cycle ≤ cycle)
      by (Err reason) j = (ap length j.1, λ k u is. omega (arith, before.stamps k u (sym (ap (λ us. slice_get us k) j.1) ∙ is), on))
      by (Ok n) j =
          let new : Used = record { cycle = cycle; octets = n } in (
            ap length j.1 ∙ length-set used index new,
            λ k u is.
                let inside = slice_get_within after k u is in
                let in_set : k < length used = omega (arith, inside, ap length j.1, length-set used index new) in
                let got : get_or (slice_set used index new) k u ≡ u = sym (ap (λ us. get_or us k u) j.1) ∙ get_or_from_slice_get after k u u is in
                elim (cases_eq k index) [
                  | inl e ↦ omega (
                    arith,
                    ap (λ (z : Used). z.cycle) (sym (get_or-set_same used index new u (omega (arith, e, in_set)))
                        ∙ ap (λ q. get_or (slice_set used index new) q u) (sym e) ∙ got),
                  )
                  | inr other ↦ omega (
                    arith,
                    on,
                    before.stamps k u
                        (slice_get_read used (length used) k u refl in_set (sym (sym (get_or-set_other used index k new u other) ∙ got))),
                  )
                ],
          )

  pub covers_more : CoversTo d rows offers (p + 1) to after_of after (edge_verdicts ++ edge_verdict ∷ [])
  covers_more =
      let counts = counters_then judged.index judged.by_row in
      record {
        within = has.begins.within;
        counters = counts.0 ∙ before.counters;
        leads = has.begins.leads;
        cycle = cycle;
        begun_by = begun_by;
        passed = passed;
        ahead = ahead;
        stamps = counts.1;
        for_each = for_this;
      }
