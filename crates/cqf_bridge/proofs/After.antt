-- The verdict on a frame by the gates is its verdict after the frames that they have counted.
use Rattle.std.proofs.Common.{◌≡◌, ◌+◌, ◌<◌, ℕ, Bool, true, false, List, [], ◌∷◌, ◌++◌, ◌∙◌, sym, ap, refl, arith, map, filter}
use Rattle.std.specs.Prelude.{◌==◌, if◌then◌else◌, slice_get, sum_by}
use Rattle.std.specs.Option.{option_map_or}
use Rattle.std.proofs.lemmas.Bool.{eq-eqb}
use Rattle.std.proofs.lemmas.List.{map-append}
use Rattle.std.proofs.lemmas.List.Elements.{filter-append}
use Rattle.std.proofs.lemmas.List.Sums.{sum_by-append}
use Rattle.cqf_units.specs.Timing.{cycle_at}
use Rattle.cqf_units.specs.Timing.{counted_of}
use Rattle.cqf_model.specs.declared.gates.StreamEntry.{StreamEntry}
use Rattle.cqf_model.specs.declared.topology.Row.{Row}
use Rattle.cqf_model.specs.Domain.{Domain, cycle_of}
use Rattle.cqf_model.specs.StreamGate.{PassedFrame, index_at, octets_in, within}
use Rattle.cqf_model.specs.Table.{hop_number_after, table_of}
use Rattle.cqf_model.specs.Policing.{Policed, Received, calls_of, came_by, gate_list_after, is_queued_of, police, verdict_by, within_gate}
use Rattle.cqf_gates.specs.StreamGate.{taken_at}
use Rattle.cqf_laws_cycle.specs.Compiled.{GateCountsCycles}
use Rattle.cqf_bridge.specs.declared.cycle_gate.KeptGate.{KeptGate}
use Rattle.cqf_bridge.specs.Gates.{HaveCounted, counted_in, gate_in, kept_of, octets_of_cycle}
use Rattle.cqf_bridge.proofs.Counting.{counted_at, octets_by_cycle}
use Rattle.cqf_bridge.specs.declared.policing.FrameVerdict.{FrameVerdict}
use Rattle.cqf_bridge.specs.Taking.{IsPolicedAfter, Polices, passes_by, verdict_taken}

-- the calls of a stream in a cycle, after one more frame of it
calls_more : (overhead time cycle number : ℕ) (policed : List Policed) (p : Policed) → (cycle_at time p.received.at == cycle) ≡ true →
    octets_of_cycle time cycle (calls_of overhead number (policed ++ p ∷ []))
    ≡ octets_of_cycle time cycle (calls_of overhead number policed) + (if is_queued_of number p.verdict then counted_of overhead p.received.octets else 0)
calls_more overhead time cycle number policed p here =
    let call_of : Policed → PassedFrame = λ q. (q.received.at, counted_of overhead q.received.octets) in
    let test : Policed → Bool = λ q. is_queued_of number q.verdict in
    let counted : PassedFrame → ℕ = λ call. if cycle_at time call.0 == cycle then call.1 else 0 in
    ap (λ (ps : List Policed). sum_by counted (map call_of ps)) (filter-append test policed (p ∷ []))
    ∙ ap (sum_by counted) (map-append call_of (filter test policed) (filter test (p ∷ [])))
    ∙ sum_by-append counted (map call_of (filter test policed)) (map call_of (filter test (p ∷ [])))
    ∙ ap (λ (n : ℕ). sum_by counted (map call_of (filter test policed)) + n) (one (is_queued_of number p.verdict))
  where
    one : (b : Bool) →
        sum_by (λ (call : PassedFrame). if cycle_at time call.0 == cycle then call.1 else 0)
        (map (λ (q : Policed). (q.received.at, counted_of overhead q.received.octets)) (if b then p ∷ [] else []))
        ≡ (if b then counted_of overhead p.received.octets else 0)
    one true = ap (λ (b : Bool). 0 + (if b then counted_of overhead p.received.octets else 0)) here ∙ zero_plus (counted_of overhead p.received.octets)
      where
        zero_plus : (n : ℕ) → 0 + n ≡ n
        zero_plus n = omega arith
    one false = refl

module _ (d : Domain) (tables : List (List Row)) (rows : List Row) (bridge cycle : ℕ) (counts : GateCountsCycles) (some : 0 < d.cycle_time)
    (table : table_of tables cycle ≡ rows) (policed : List Policed) (x : Received) (gates : List KeptGate) (here : cycle_of d x.at ≡ cycle)
    (counted : HaveCounted d cycle policed gates) where
  -- a row's gate has counted the calls of the frames before
  same_counted : (row : Row) →
      taken_at (gate_in d gates row (came_by x.ingress)) x.at ≡ octets_in (gate_list_after d row (came_by x.ingress)) (calls_of d.overhead row.no policed) x.at
  same_counted row =
      let hop_number = hop_number_after row (came_by x.ingress) in
      counted_at counts d.cycle_time row.octets row.pace hop_number some (kept_of gates row.no) x.at
      ∙ ap (counted_in gates row.no) here
      ∙ counted row.no
      ∙ ap (λ (c : ℕ). octets_of_cycle d.cycle_time c (calls_of d.overhead row.no policed)) (sym here)
      ∙ sym (octets_by_cycle counts d.cycle_time row.octets row.pace hop_number some (calls_of d.overhead row.no policed) x.at)

  -- so it passes what these leave room for
  gates_agree : (row : Row) → passes_by d gates x row ≡ within_gate d policed row x
  gates_agree row =
      let entries = gate_list_after d row (came_by x.ingress) in
      ap (λ (n : ℕ). option_map_or (λ (entry : StreamEntry). within entry.octet_max (n + counted_of d.overhead x.octets)) (slice_get entries (index_at entries x.at)) false)
      (same_counted row)

  -- and the verdict is that of the definitions
  pub verdict_after : verdict_taken d rows bridge cycle gates x ≡ (police d tables bridge policed x).verdict
  verdict_after =
      (λ i. verdict_by d (sym table i) bridge cycle (λ row. gates_agree row i) x.ingress)
      ∙ ap (λ (c : ℕ). verdict_by d (table_of tables c) bridge c (λ row. within_gate d policed row x) x.ingress) (sym here)

  -- and gates that count the frame have counted it after the others
  pub counted_after : (gates_after : List KeptGate) →
      ((number : ℕ) → counted_in gates_after number cycle
      ≡ counted_in gates number cycle + (if is_queued_of number (verdict_taken d rows bridge cycle gates x) then counted_of d.overhead x.octets else 0)) →
      HaveCounted d cycle (policed ++ police d tables bridge policed x ∷ []) gates_after
  counted_after gates_after more number =
      more number
      ∙ (λ i. counted number i + (if is_queued_of number (verdict_after i) then counted_of d.overhead x.octets else 0))
      ∙ sym (calls_more d.overhead d.cycle_time cycle number policed (police d tables bridge policed x) (eq-eqb (cycle_of d x.at) cycle here))

  -- so its verdict is the one after them
  pub policed_after : (gates_after : List KeptGate) (made : FrameVerdict) → Polices d rows bridge cycle x gates gates_after made →
      IsPolicedAfter d tables bridge cycle x policed gates_after made
  policed_after gates_after made p = record { verdict = p.verdict ∙ verdict_after; counted = counted_after gates_after p.counted }
