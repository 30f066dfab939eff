-- The offers judged so far, and one more.
use Rattle.std.proofs.Common.{◌≡◌, ◌≢◌, ℕ, suc, zero, ◌+◌, ◌-◌, ◌/◌, ◌<◌, ◌≤◌, [], List, Bool, true, false}
use Rattle.std.proofs.Common.{Option, Some, None, Ok, Err, refl, sym, ap, ◌∙◌, subst, arith, length, take}
use Rattle.std.proofs.Common.{Contains, get_or, nat_le, not, ◌&&◌, if◌then◌else◌}
use Rattle.std.proofs.Common.{eq-eqb, ne_eqb, Result, nat_lt, lt-ltb, ltb-true, replicate}
use Rattle.std.specs.Prelude.{slice_get}
use Rattle.std.specs.List.{enumerate_from}
use Rattle.std.specs.Option.{option_map_or}
use Rattle.std.proofs.lemmas.Bool.{and_from, and_parts, true≢false}
use Rattle.std.proofs.lemmas.List.{get_or-map, get_or-set_other, get_or-set_same, length-map, length-replicate}
use Rattle.std.proofs.lemmas.List.FromFn.{get_or-enumerate_from, length-enumerate_from}
use Rattle.std.proofs.lemmas.Option.{get_or_from_slice_get, slice_get-get_or, slice_get_read, slice_get_within}
use Rattle.cqf_units.specs.declared.reservations.Cycle.{Cycle}
use Rattle.cqf_model.specs.declared.frames.Offer.{Offer}
use Rattle.cqf_model.specs.declared.frames.Offered.{Offered}
use Rattle.cqf_model.specs.declared.frames.Reason.{Reason}
use Rattle.cqf_model.specs.declared.frames.Reason.TheVariants.{Withdrawn, OtherBridge, Octets}
use Rattle.cqf_model.specs.declared.topology.Row.{Row}
use Rattle.cqf_model.specs.Domain.{Domain}
use Rattle.cqf_model.specs.History.{IsLegalHistory, Recorded, seals, streams_of}
use Rattle.cqf_model.specs.Shift.{offer_cycle, taken_by}
use Rattle.cqf_model.specs.Table.{is_held, is_live, residence}
use Rattle.cqf_model.specs.Policing.{Queued, DroppedFor, numbered}
use Rattle.cqf_laws_coverage.specs.Rows.{as_of}
use Rattle.cqf_instants_run.specs.declared.judged.EdgeVerdict.{EdgeVerdict}
use Rattle.cqf_instants_run.specs.declared.judged.Used.{Used}
use Rattle.cqf_instants_run.specs.Begun.{IsLastBegun, LeadsToLast}
use Rattle.cqf_instants_run.specs.Coverage.{AreJudged, JudgedFor, queued_as, used_at, used_in, verdict_of}

-- what the offers below an index have used of each live row in a cycle
abbrev pub AreUsed : Domain → List Recorded → List Row → List Offer → ℕ → ℕ → List Used → Type 0
AreUsed d entries rows offers index cycle used = (k : ℕ) (row : Row) → slice_get rows k ≡ Some row → is_live row cycle ≡ true → cycle < seals entries →
    taken_by d row cycle (take index (numbered offers)) ≡ used_at used cycle k

-- so they are judged, and what they use is counted
pub record IsFor (d : Domain) (entries : List Recorded) (rows : List Row) (offers : List Offer) (index cycle : ℕ) (used : List Used)
    (edge_verdicts : List EdgeVerdict) : Type 0 where
  pub judged : AreJudged d entries rows offers index edge_verdicts
  pub counted : AreUsed d entries rows offers index cycle used

-- the same by a cycle, the last one of the offers below an index
pub record CoversTo (d : Domain) (rows : List Row) (offers : List Offer) (index begun : ℕ) (index_of : List ℕ → Option ℕ) (used : List Used)
    (edge_verdicts : List EdgeVerdict) : Type 0 where
  pub within : begun ≤ length rows
  pub counters : length used ≡ length rows
  pub leads : LeadsToLast rows begun index_of
  pub cycle : ℕ
  pub begun_by : (k : ℕ) (row : Row) → k < begun → slice_get rows k ≡ Some row → row.admitted.0 ≤ cycle
  pub passed : (y : Offered) → Contains (take index (numbered offers)) y → offer_cycle d y ≤ cycle
  pub ahead : (offer : Offer) → slice_get offers index ≡ Some offer → cycle ≤ offer.at.0 / d.cycle_time
  pub stamps : (k : ℕ) (u : Used) → slice_get used k ≡ Some u → u.cycle ≤ cycle
  pub for_each : (entries : List Recorded) → IsLegalHistory d entries → streams_of d entries ≡ rows → IsFor d entries rows offers index cycle used edge_verdicts

-- the offer at an index, with its number
pub numbered_at : (offers : List Offer) (p : ℕ) (offer : Offer) → slice_get offers p ≡ Some offer →
    slice_get (numbered offers) p ≡ Some (record { frame = p + 1; offer = offer })
numbered_at offers p offer at =
    let inside : p < length offers = slice_get_within offers p offer at in
    let f : ℕ × Offer → Offered = λ z. record { frame = z.0; offer = z.1 } in
    let x : Offered = record { frame = p + 1; offer = offer } in
    let e : ℕ × Offer = (0, offer) in
    let all = enumerate_from 1 offers in
    let next : 1 + p ≡ p + 1 = omega arith in
    let is : get_or (numbered offers) p x ≡ x =
    get_or-map f all p e x (omega (arith, inside, length-enumerate_from 1 offers))
    ∙ ap f (get_or-enumerate_from 1 offers p e inside)
    ∙ (λ i. record { frame = next i; offer = get_or_from_slice_get offers p offer offer at i }) in
    slice_get_read (numbered offers) (length (numbered offers)) p x refl
    (omega (arith, inside, length-map all f, length-enumerate_from 1 offers)) (sym is)

-- what is live is held
pub live_held : (row : Row) (cycle : ℕ) → is_live row cycle ≡ true → is_held row cycle ≡ true
live_held row cycle h = by row.withdrawn h
  where
    by : (end : Option Cycle) → (nat_le row.admitted.0 cycle && option_map_or (λ (w : Cycle). nat_lt cycle w.0) end true) ≡ true →
        (nat_le row.admitted.0 cycle && option_map_or (λ (w : Cycle). nat_lt cycle (w.0 + residence row)) end true) ≡ true
    by None h = h
    by (Some w) h =
        let parts = and_parts (nat_le row.admitted.0 cycle) (nat_lt cycle w.0) h in
        and_from (nat_le row.admitted.0 cycle) (nat_lt cycle (w.0 + residence row)) parts.0
        (lt-ltb cycle (w.0 + residence row) (omega (arith, ltb-true cycle w.0 parts.1)))

-- a counter of an earlier cycle counts nothing in a later one
pub fresh : (used : List Used) (cycle later k : ℕ) → ((i : ℕ) (u : Used) → slice_get used i ≡ Some u → u.cycle ≤ cycle) → cycle < later → k < length used →
    used_at used later k ≡ 0
fresh used cycle later k stamps less inside =
    let none : Used = record { cycle = 0; octets = 0 } in
    let u = get_or used k none in
    ap (λ b. if b then u.octets else 0)
    (ne_eqb u.cycle later (λ e. omega (arith, e, less, stamps k u (slice_get-get_or used k none inside))))

-- the effect of a row's verdict on its own counter, and on another
pub own_counter : (cycle index : ℕ) (before after : List Used) (j : EdgeVerdict) (live begins fits : Bool) (n : ℕ) → live ≡ true → index < length before →
    JudgedFor cycle index before after j (if not live then Err Withdrawn
    else (if not begins then Err OtherBridge else (if not fits then Err Octets else Ok n))) →
    (if begins && fits then n else used_at before cycle index) ≡ used_at after cycle index
own_counter cycle index before after j false begins fits n live inside by_row = absurd (true≢false (sym live))
own_counter cycle index before after j true false fits n live inside by_row = ap (λ us. used_at us cycle index) (sym by_row.1)
own_counter cycle index before after j true true false n live inside by_row = ap (λ us. used_at us cycle index) (sym by_row.1)
own_counter cycle index before after j true true true n live inside by_row =
    let none : Used = record { cycle = 0; octets = 0 } in
    let u : Used = record { cycle = cycle; octets = n } in
    sym (ap (λ us. used_at us cycle index) by_row.1
    ∙ ap (used_in cycle) (get_or-set_same before index u none inside)
    ∙ ap (λ b. if b then n else 0) (eq-eqb cycle cycle refl))

pub other_counter : (cycle index k : ℕ) (before after : List Used) (j : EdgeVerdict) (r : Result ℕ Reason) → k ≢ index → JudgedFor cycle index before after j r →
    used_at after cycle k ≡ used_at before cycle k
other_counter cycle index k before after j (Err reason) other by_row = ap (λ us. used_at us cycle k) by_row.1
other_counter cycle index k before after j (Ok n) other by_row =
    let none : Used = record { cycle = 0; octets = 0 } in
    ap (λ us. used_at us cycle k) by_row.1
    ∙ ap (used_in cycle) (get_or-set_other before index k (record { cycle = cycle; octets = n }) none other)

-- and the verdict itself
pub own_verdict : (rows : List Row) (cycle index : ℕ) (row : Row) (before after : List Used) (j : EdgeVerdict) (live begins fits also_fits : Bool) (n : ℕ) →
    slice_get rows index ≡ Some row → (live ≡ true → fits ≡ also_fits) →
    JudgedFor cycle index before after j (if not live then Err Withdrawn
    else (if not begins then Err OtherBridge else (if not fits then Err Octets else Ok n))) →
    verdict_of rows cycle j
    ≡ (if not live then DroppedFor Withdrawn else (if not begins then DroppedFor OtherBridge
    else (if not also_fits then DroppedFor Octets else Queued (as_of cycle row))))
own_verdict rows cycle index row before after j false begins fits also_fits n at same by_row = ap (verdict_of rows cycle) by_row.0
own_verdict rows cycle index row before after j true false fits also_fits n at same by_row = ap (verdict_of rows cycle) by_row.0
own_verdict rows cycle index row before after j true true fits also_fits n at same by_row = by fits (same refl) by_row
  where
    by : (b : Bool) → b ≡ also_fits → JudgedFor cycle index before after j (if not b then Err Octets else Ok n) →
        verdict_of rows cycle j ≡ (if not also_fits then DroppedFor Octets else Queued (as_of cycle row))
    by true e by_row =
        ap (verdict_of rows cycle) by_row.0 ∙ ap (queued_as cycle) at ∙ ap (λ b. if not b then DroppedFor Octets else Queued (as_of cycle row)) e
    by false e by_row =
        ap (verdict_of rows cycle) by_row.0 ∙ ap (λ b. if not b then DroppedFor Octets else Queued (as_of cycle row)) e

-- a replicated element is at each index
same_there : {X : Type 0} (n k : ℕ) (v : X) → get_or (replicate n v) k v ≡ v
same_there zero k v = refl
same_there (suc n) zero v = refl
same_there (suc n) (suc k) v = same_there n k v

-- before the first offer nothing is judged
pub covers_none : (d : Domain) (rows : List Row) (offers : List Offer) (index_of : List ℕ → Option ℕ) (used : List Used) (edge_verdicts : List EdgeVerdict) →
    ((name : List ℕ) → index_of name ≡ None) → used ≡ replicate (length rows) (record { cycle = 0; octets = 0 }) → edge_verdicts ≡ [] →
    CoversTo d rows offers 0 0 index_of used edge_verdicts
covers_none d rows offers index_of used edge_verdicts nowhere none none_judged =
    let unused : Used = record { cycle = 0; octets = 0 } in
    record {
      within = omega arith;
      counters = ap length none ∙ length-replicate (length rows) unused;
      leads = λ name. subst (IsLastBegun rows 0 name) (sym (nowhere name)) (λ index row below is. absurd (omega (arith, below)));
      cycle = 0;
      begun_by = λ k row below is. absurd (omega (arith, below));
      passed = λ y inside. absurd (omega (arith, inside.1));
      ahead = λ offer is. omega arith;
      stamps = λ k u is.
          omega (
            arith,
            ap (λ (z : Used). z.cycle) (sym (get_or_from_slice_get used k u unused is) ∙ ap (λ us. get_or us k unused) none
                ∙ same_there (length rows) k unused),
          );
      for_each = λ entries legal is. record {
        judged = record { count = ap length none_judged; each = λ index x j below x_is j_is closed. absurd (omega (arith, below)) };
        counted = λ k row is live closed. sym (ap (λ us. used_at us 0 k) none ∙ ap (used_in 0) (same_there (length rows) k unused));
      };
    }

-- and after the last offer all are judged
pub covers_all : (d : Domain) (rows : List Row) (offers : List Offer) (index begun : ℕ) (index_of : List ℕ → Option ℕ) (used : List Used)
    (edge_verdicts : List EdgeVerdict) → index ≡ length offers → CoversTo d rows offers index begun index_of used edge_verdicts →
    (entries : List Recorded) → IsLegalHistory d entries → streams_of d entries ≡ rows → AreJudged d entries rows offers (length offers) edge_verdicts
covers_all d rows offers index begun index_of used edge_verdicts end all entries legal is =
    subst (λ n. AreJudged d entries rows offers n edge_verdicts) end (all.for_each entries legal is).judged
