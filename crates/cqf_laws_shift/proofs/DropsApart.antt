-- No two drops of a book are of the same frame.
use Rattle.std.proofs.Common.{◌≡◌, ℕ, ◌+◌, ◌≤◌, ◌==◌, List, sym, ap, ◌∙◌, arith, AllPairs, Contains, filter, sum_by}
use Rattle.std.proofs.Common.{length, eqb-true, if◌then◌else◌, inl, inr, refl}
use Rattle.std.proofs.lemmas.Bool.{and_parts, cases_Bool, cond-true, cond-false}
use Rattle.cqf_lists.specs.Lists.{each_below}
use Rattle.cqf_lists.proofs.EachBelow.{contains_from_below}
use Rattle.cqf_lists.proofs.Members.{contains_from_filter, contains_from_flat}
use Rattle.cqf_lists.proofs.Pairs.{pairs_below}
use Rattle.cqf_lists.proofs.Sums.{sum_filter, sum_flat, sum_le_members, sum_map, sum_two}
use Rattle.cqf_model.specs.declared.frames.Dropped.{Dropped}
use Rattle.cqf_model.specs.declared.frames.Offered.{Offered}
use Rattle.cqf_model.specs.Book.{drop_by, drops_in, drops_of, is_of_index}
use Rattle.cqf_model.specs.Domain.{Domain, cycle_of}
use Rattle.cqf_model.specs.Run.{Run, end_of_run}
use Rattle.cqf_model.specs.Shift.{offer_cycle}
use Rattle.cqf_model.specs.Policing.{Carried, DroppedFor, ExceedsGate, LacksRow, Policed, Queued, Received, Verdict, came_by, numbered}
use Rattle.cqf_model.proofs.Drops.{dropped_at, dropped_for, drops_at}
use Rattle.cqf_laws_shift.specs.Alone.{IsPlanned}
use Rattle.cqf_laws_shift.proofs.Came.{offered_counts, offers_single, one_number, policed}
use Rattle.cqf_laws_shift.proofs.CycleLaws.{CycleLaws}
use Rattle.cqf_laws_shift.proofs.Fed.{facts}
use Rattle.cqf_laws_shift.proofs.Shifts.{dropped_uncovered}
use Rattle.cqf_laws_shift.proofs.Singles.{counts_offer}

-- two drops aren't of the same frame
abbrev pub DropsApart : Dropped → Dropped → Type 0
DropsApart a b = a.frame ≡ b.frame → ⊥

-- if counting 1 for each element of a list gives at most 1, the list has no two elements
pairs_of_one : {X : Type 0} (R : X → X → Type 0) (xs : List X) → sum_by (λ (x : X). 1) xs ≤ 1 → AllPairs R xs
pairs_of_one {X} R xs one i j d l inside = absurd (omega (arith, one, sum_two (λ (x : X). 1) xs i j d l inside))

module _ (laws : CycleLaws) (run : Run) (carried : Carried) (planned : IsPlanned run) where
  -- the run's domain
  abbrev d : Domain
  d = run.domain

  -- the verdicts on what arrives at a bridge
  abbrev given : ℕ → List Policed
  given bridge = policed run carried (end_of_run run) bridge

  -- the drop comes from an offer of its number, at its bridge and in its cycle
  pub record IsOfOffer (cycle bridge : ℕ) (drop : Dropped) : Type 0 where
    pub x : Offered
    pub inside : Contains (numbered run.offers) x
    pub frame : drop.frame ≡ x.frame
    pub here : bridge ≡ x.offer.bridge
    pub in_cycle : cycle ≡ offer_cycle run.domain x

  -- this holds for each drop
  of_offer : (cycle bridge : ℕ) (drop : Dropped) → Contains (drops_in d (length run.offers) given cycle bridge) drop → IsOfOffer cycle bridge drop
  of_offer cycle bridge drop c =
      let from = dropped_at d (length run.offers) given cycle bridge drop c in
      let parts = and_parts (cycle_of d from.p.received.at == cycle) (from.p.received.frame == from.index + 1) from.of_index in
      let u = dropped_uncovered laws run carried planned bridge from.p from.reason from.inside from.verdict in
      record {
        x = u.0.offered;
        inside = u.0.inside;
        frame = ap (λ (z : Dropped). z.frame) (sym from.is) ∙ ap (λ (z : Received). z.frame) (sym u.0.is);
        here = sym u.0.here;
        in_cycle = sym (eqb-true (cycle_of d from.p.received.at) cycle parts.0) ∙ ap (λ (z : Received). cycle_of d z.at) (sym u.0.is);
      }

  -- two drops of the same frame are at the same bridge and in the same cycle
  one_offer : (cycle other bridge from : ℕ) (a b : Dropped) → IsOfOffer cycle bridge a → IsOfOffer other from b → a.frame ≡ b.frame →
      (cycle ≡ other) × (bridge ≡ from)
  one_offer cycle other bridge from a b x y frames =
      let same : x.x ≡ y.x = one_number run.offers x.x y.x x.inside y.inside (sym x.frame ∙ frames ∙ y.frame) in (
        x.in_cycle ∙ ap (offer_cycle d) same ∙ sym y.in_cycle,
        x.here ∙ ap (λ (z : Offered). z.offer.bridge) same ∙ sym y.here,
      )

  -- what a frame of a number drops is at most what it counts as an offer of that number
  module _ (cycle bridge index : ℕ) where
    abbrev dropped_by : Policed → List Dropped
    dropped_by p = drop_by cycle bridge p.received p.verdict

    abbrev counts : Policed → ℕ
    counts p = offered_counts (index + 1) p.received.ingress p.received.frame

    by_verdict : (p : Policed) (v : Verdict) → Contains (given bridge) p → p.verdict ≡ v → p.received.frame ≡ index + 1 →
        sum_by (λ (x : Dropped). 1) (drop_by cycle bridge p.received v) ≤ counts p
    by_verdict p (Queued row) c e number = omega arith
    by_verdict p LacksRow c e number = omega arith
    by_verdict p ExceedsGate c e number = omega arith
    by_verdict p (DroppedFor reason) c e number =
        let u = dropped_uncovered laws run carried planned bridge p reason c e in
        let edge = ap (λ (z : Received). came_by z.ingress) (sym u.0.is) in
        omega (arith, counts_offer (index + 1) p.received.ingress p.received.frame edge number)

    kept : (p : Policed) → Contains (given bridge) p →
        (if is_of_index d cycle index p then sum_by (λ (x : Dropped). 1) (dropped_by p) else 0) ≤ counts p
    kept p c = elim (cases_Bool (is_of_index d cycle index p)) [
      | inl t ↦
          let parts = and_parts (cycle_of d p.received.at == cycle) (p.received.frame == index + 1) t in
          let less = by_verdict p p.verdict c refl (eqb-true p.received.frame (index + 1) parts.1) in
          omega (arith, less, cond-true (is_of_index d cycle index p) (sum_by (λ (x : Dropped). 1) (dropped_by p)) 0 t)
      | inr f ↦ omega (arith, cond-false (is_of_index d cycle index p) (sum_by (λ (x : Dropped). 1) (dropped_by p)) 0 f)
    ]

    -- so an index has at most one drop
    single : sum_by (λ (x : Dropped). 1) (drops_at d given cycle bridge index) ≤ 1
    single =
        let flat = sum_flat (λ (x : Dropped). 1) dropped_by (filter (is_of_index d cycle index) (given bridge)) in
        let of_kept = sum_filter (λ (p : Policed). sum_by (λ (x : Dropped). 1) (dropped_by p)) (is_of_index d cycle index) (given bridge) in
        let less = sum_le_members (λ (p : Policed). if is_of_index d cycle index p then sum_by (λ (x : Dropped). 1) (dropped_by p) else 0) counts
        (given bridge) kept in
        let by_received = sum_map (λ (x : Received). offered_counts (index + 1) x.ingress x.frame) (λ (p : Policed). p.received) (given bridge) in
        let active_cycle = ap (sum_by (λ (x : Received). offered_counts (index + 1) x.ingress x.frame)) (facts laws run carried planned bridge).in_turn in
        omega (arith, flat, of_kept, less, by_received, active_cycle, offers_single run carried (end_of_run run) bridge (index + 1))

  -- the drops of an index have its number
  index_is : (cycle bridge index : ℕ) (drop : Dropped) → Contains (drops_at d given cycle bridge index) drop → drop.frame ≡ index + 1
  index_is cycle bridge index drop c =
      let w = contains_from_flat (dropped_by cycle bridge index) (filter (is_of_index d cycle index) (given bridge)) drop c in
      let k = contains_from_filter (is_of_index d cycle index) (given bridge) w.0 w.1 in
      let parts = and_parts (cycle_of d w.0.received.at == cycle) (w.0.received.frame == index + 1) k.1 in
      let f = dropped_for cycle bridge w.0.received w.0.verdict drop w.2 in
      ap (λ (z : Dropped). z.frame) (sym f.2) ∙ eqb-true w.0.received.frame (index + 1) parts.1

  -- no two at a bridge in a cycle
  here_apart : (cycle bridge : ℕ) → AllPairs DropsApart (drops_in d (length run.offers) given cycle bridge)
  here_apart cycle bridge =
      pairs_below DropsApart (drops_at d given cycle bridge) (length run.offers)
      (λ index l. pairs_of_one DropsApart (drops_at d given cycle bridge index) (single cycle bridge index))
      (λ j k a b less m ca cb frames. omega (arith, less, frames, index_is cycle bridge j a ca, index_is cycle bridge k b cb))

  -- nor among all
  pub drops_apart : AllPairs DropsApart (drops_of d (length run.tables) (length run.offers) given)
  drops_apart =
      let bridges = length d.bridges in
      let at : ℕ → ℕ → List Dropped = drops_in d (length run.offers) given in
      pairs_below DropsApart (λ (cycle : ℕ). each_below (at cycle) bridges) (length run.tables)
      (λ cycle l. pairs_below DropsApart (at cycle) bridges (λ bridge m. here_apart cycle bridge)
      (λ j k a b less m ca cb frames.
      omega (arith, less, (one_offer cycle cycle j k a b (of_offer cycle j a ca) (of_offer cycle k b cb) frames).1)))
      (λ j k a b less m ca cb frames.
      let u = contains_from_below (at j) bridges a ca in
      let v = contains_from_below (at k) bridges b cb in
      omega (arith, less, (one_offer j k u.0 v.0 a b (of_offer j u.0 a u.2) (of_offer k v.0 b v.2) frames).0))
