-- A book has at most one drop of an offer at a bridge in a cycle, with the number of the offer's position.
use Rattle.std.proofs.Common.{◌≡◌, ℕ, ◌+◌, ◌≤◌, [], ◌++◌, ◌==◌, List, Bool, true, sym, ap, ◌∙◌, subst, arith, refl, eq-eqb, eqb-true}
use Rattle.std.proofs.Common.{AllPairs, Contains, filter, get_or, sum_by}
use Rattle.std.proofs.lemmas.Bool.{and_parts, cond-true}
use Rattle.std.proofs.lemmas.List.Kept.{AllPairs-filter}
use Rattle.cqf_lists.proofs.Made.{pairs_of_flat}
use Rattle.cqf_lists.proofs.Members.{contains_from_filter, contains_from_flat}
use Rattle.cqf_lists.proofs.Pairs.{pairs_none, pairs_one}
use Rattle.cqf_lists.proofs.Sums.{sum_map, sum_two}
use Rattle.cqf_model.proofs.Drops.{drop_for, dropped_for, drops_at}
use Rattle.cqf_model.proofs.Policing.{after_those_before, inside_drops_none}
use Rattle.cqf_model.specs.declared.frames.Dropped.{Dropped}
use Rattle.cqf_model.specs.declared.frames.Reason.{Reason}
use Rattle.cqf_model.specs.declared.topology.Row.{Row}
use Rattle.cqf_model.specs.Book.{drop_by, is_of_index}
use Rattle.cqf_model.specs.Domain.{Domain, cycle_of}
use Rattle.cqf_model.specs.Run.{Run}
use Rattle.cqf_model.specs.Table.{row_of, table_of}
use Rattle.cqf_model.specs.Policing.{AtEdge, Carried, DroppedFor, ExceedsGate, Ingress, LacksRow, Policed, Queued, Received, Relayed, Verdict}
use Rattle.cqf_model.specs.Policing.{police_all, policed_before, received_before, verdict_by, within_gate}
use Rattle.cqf_laws_shift.proofs.Came.{came, offered_counts, offers_single}
use Rattle.cqf_laws_shift.proofs.Covered.{is_offered}
use Rattle.cqf_laws_shift.proofs.Policing.{received_list}

-- a drop of the offer at an index has the cycle, the bridge, and the offer's number
pub record IsDropOf (cycle bridge index : ℕ) (x : Dropped) : Type 0 where
  pub of_cycle : x.cycle.0 ≡ cycle
  pub of_bridge : x.bridge ≡ bridge
  pub of_index : x.frame ≡ index + 1

-- this holds for those of the book
pub drop_of_index : (d : Domain) (policed : ℕ → List Policed) (cycle bridge index : ℕ) (x : Dropped) → Contains (drops_at d policed cycle bridge index) x →
    IsDropOf cycle bridge index x
drop_of_index d policed cycle bridge index x h =
    let w = contains_from_flat (λ (p : Policed). drop_by cycle bridge p.received p.verdict) (filter (is_of_index d cycle index) (policed bridge)) x h in
    let kept = contains_from_filter (is_of_index d cycle index) (policed bridge) w.0 w.1 in
    let f = dropped_for cycle bridge w.0.received w.0.verdict x w.2 in
    record {
      of_cycle = sym (ap (λ (z : Dropped). z.cycle.0) f.2);
      of_bridge = sym (ap (λ (z : Dropped). z.bridge) f.2);
      of_index = sym (ap (λ (z : Dropped). z.frame) f.2)
          ∙ eqb-true w.0.received.frame (index + 1) (and_parts (cycle_of d w.0.received.at == cycle) (w.0.received.frame == index + 1) kept.1).1;
    }

-- a verdict has at most one drop
one_of_verdict : (R : Dropped → Dropped → Type 0) (cycle bridge : ℕ) (x : Received) (v : Verdict) → AllPairs R (drop_by cycle bridge x v)
one_of_verdict R cycle bridge x (DroppedFor reason) = pairs_one R (drop_for cycle bridge x reason)
one_of_verdict R cycle bridge x (Queued row) = pairs_none R
one_of_verdict R cycle bridge x LacksRow = pairs_none R
one_of_verdict R cycle bridge x ExceedsGate = pairs_none R

-- what is dropped was offered
dropped_is_offered : (d : Domain) (table : List Row) (bridge cycle : ℕ) (passes : Row → Bool) (ingress : Ingress) (reason : Reason) →
    verdict_by d table bridge cycle passes ingress ≡ DroppedFor reason → is_offered ingress ≡ true
dropped_is_offered d table bridge cycle passes (AtEdge name) reason e = refl
dropped_is_offered d table bridge cycle passes (Relayed m number) reason e = absurd (inside_drops_none d bridge m passes (row_of table number) reason e)

-- an offered frame counts 1 for its number
counts_one : (ingress : Ingress) (number frame : ℕ) → is_offered ingress ≡ true → number ≡ frame → offered_counts frame ingress number ≡ 1
counts_one (AtEdge name) number frame e same = cond-true {A = ℕ} (number == frame) 1 0 (eq-eqb number frame same)
counts_one (Relayed m stream) number frame e same = absurd (cc)

-- frames that were offered have different numbers
abbrev Apart : Policed → Policed → Type 0
Apart p q = is_offered p.received.ingress ≡ true → is_offered q.received.ingress ≡ true → p.received.frame ≡ q.received.frame → ⊥

module _ (run : Run) (carried : Carried) (end : ℕ) where
  -- the verdicts on the frames that arrive at a bridge
  abbrev given : ℕ → List Policed
  given bridge = policed_before run carried bridge end

  -- each offer there arrives once
  offered_once : (bridge frame : ℕ) → sum_by (λ (r : Policed). offered_counts frame r.received.ingress r.received.frame) (given bridge) ≤ 1
  offered_once bridge frame =
      subst (λ z. z ≤ 1) (sum_map (λ (x : Received). offered_counts frame x.ingress x.frame) (λ (r : Policed). r.received) (given bridge))
      (subst (λ z. sum_by (λ (x : Received). offered_counts frame x.ingress x.frame) z ≤ 1)
      (sym (received_list run.domain run.tables bridge [] (came run carried end bridge)))
      (offers_single run carried end bridge frame))

  -- so no two of them have the same number
  offers_apart : (bridge : ℕ) → AllPairs Apart (given bridge)
  offers_apart bridge i j e less inside first second same =
      let p = get_or (given bridge) i e in
      let q = get_or (given bridge) j e in
      absurd (omega (
        arith,
        offered_once bridge p.received.frame,
        sum_two (λ (r : Policed). offered_counts p.received.frame r.received.ingress r.received.frame) (given bridge) i j e less inside,
        counts_one p.received.ingress p.received.frame p.received.frame first refl,
        counts_one q.received.ingress q.received.frame p.received.frame second (sym same),
      ))

  -- and each that is dropped is one of them
  dropped_at_edge : (bridge : ℕ) (p : Policed) (reason : Reason) → Contains (given bridge) p → p.verdict ≡ DroppedFor reason →
      is_offered p.received.ingress ≡ true
  dropped_at_edge bridge p reason c e =
      let d = run.domain in
      let r = after_those_before d run.tables bridge [] (received_before run carried bridge end) p c in
      let earlier = [] ++ police_all d run.tables bridge [] r.before in
      ap (λ (q : Policed). is_offered q.received.ingress) r.is
      ∙ dropped_is_offered d (table_of run.tables (cycle_of d r.x.at)) bridge (cycle_of d r.x.at) (λ row. within_gate d earlier row r.x) r.x.ingress reason
      (sym (ap (λ (q : Policed). q.verdict) r.is) ∙ e)

  -- so an offer has one drop
  pub one_drop : (cycle bridge index : ℕ) → AllPairs (λ (a b : Dropped). ⊥) (drops_at run.domain given cycle bridge index)
  one_drop cycle bridge index =
      let keep = is_of_index run.domain cycle index in
      let f : Policed → List Dropped = λ p. drop_by cycle bridge p.received p.verdict in
      pairs_of_flat f Apart (λ (a b : Dropped). ⊥) (filter keep (given bridge))
      (λ p c. one_of_verdict (λ (a b : Dropped). ⊥) cycle bridge p.received p.verdict)
      (λ p q u v cp cq apart cu cv.
      let kp = contains_from_filter keep (given bridge) p cp in
      let kq = contains_from_filter keep (given bridge) q cq in
      let fp = dropped_for cycle bridge p.received p.verdict u cu in
      let fq = dropped_for cycle bridge q.received q.verdict v cv in
      apart (dropped_at_edge bridge p fp.0 kp.0 fp.1) (dropped_at_edge bridge q fq.0 kq.0 fq.1)
      (eqb-true p.received.frame (index + 1) (and_parts (cycle_of run.domain p.received.at == cycle) (p.received.frame == index + 1) kp.1).1
      ∙ sym (eqb-true q.received.frame (index + 1) (and_parts (cycle_of run.domain q.received.at == cycle) (q.received.frame == index + 1) kq.1).1)))
      (AllPairs-filter Apart keep (given bridge) (offers_apart bridge))
