-- What arrives at a bridge and at its ports before an instant depends only on what was sent before it.
use Rattle.std.proofs.Common.{◌≡◌, ℕ, ◌+◌, ◌*◌, ◌<◌, ◌≤◌, true, cond, List, length, sym, refl, ap, ap₂, ◌∙◌, inl, inr, arith, subst, eqb-true}
use Rattle.std.specs.Prelude.{[], ◌++◌, map, filter, nat_lt, ◌==◌, zero, suc}
use Rattle.std.proofs.Math.Nat.{mul-le-mul_right}
use Rattle.std.proofs.lemmas.Bool.{cases_lt, lt-ltb}
use Rattle.std.proofs.lemmas.Nat.{div_below}
use Rattle.cqf_lists.proofs.EachBelow.{same_below}
use Rattle.cqf_lists.proofs.Filters.{filter_weaker}
use Rattle.cqf_lists.proofs.Fronts.{Front, front_after, front_filter, front_more, front_whole}
use Rattle.cqf_units.specs.Timing.{ending_of}
use Rattle.cqf_units.proofs.Cycles.{takes_time}
use Rattle.cqf_units.proofs.Times.{time_some}
use Rattle.cqf_model.specs.declared.frames.Sent.{Sent}
use Rattle.cqf_model.specs.declared.topology.Row.{Row}
use Rattle.cqf_model.specs.Domain.{Domain, bridge_of, cycle_of, enters, octet_time_of}
use Rattle.cqf_model.specs.Network.{QueuedFrame, backed_in, comes_before, comes_in, queued_before, queued_in, queued_to}
use Rattle.cqf_model.specs.Run.{Run}
use Rattle.cqf_model.specs.Table.{table_of}
use Rattle.cqf_model.specs.Policing.{Carried, Received, offered_at, police_all, policed_before, received_at, received_before, relayed_at, sent_received}
use Rattle.cqf_model.specs.Policing.{whole_at}
use Rattle.cqf_model.proofs.Coming.{before_when, comes_in_late, queued_front}
use Rattle.cqf_model.proofs.Links.{octet_positive}
use Rattle.cqf_model.proofs.Policing.{police_same}
use Rattle.cqf_laws_network.specs.NetworkLaws.{CarryTheSame, HaveOnePast, HaveTheSameTables, with_tables}

-- the frame comes at the instant or later
abbrev pub Late : ℕ → QueuedFrame → Type 0
Late n x = n ≤ x.arrival.at.0

-- a frame takes some time if an octet does
frame_takes_time : (start octets octet_time delay : ℕ) → 0 < octet_time → start < ending_of start octets octet_time + delay
frame_takes_time start octets octet_time delay h = omega (arith, time_some (octets + 8) octet_time (omega arith) h)

-- a frame comes after it was sent
whole_later : (d : Domain) (m : ℕ) (sent : Sent) → m < length d.links → sent.start.0 < whole_at d m sent
whole_later d m sent h = frame_takes_time sent.start.0 sent.octets (octet_time_of d m) _ (octet_positive d m h)

-- the tables agree at each instant before one
abbrev TablesAgree : Run → List (List Row) → ℕ → Type 0
TablesAgree run others n = (u : ℕ) → u < n → table_of run.tables (cycle_of run.domain u) ≡ table_of others (cycle_of run.domain u)

-- the tables of the cycles of a run
tables_until : (run : Run) (others : List (List Row)) (cycles : ℕ) → HaveTheSameTables cycles run.tables others →
    TablesAgree run others (cycles * run.domain.cycle_time)
tables_until run others cycles same u l =
    same (cycle_of run.domain u) (div_below u run.domain.cycle_time cycles (takes_time run.domain.cycle_time u cycles l) l)

module _ (run : Run) (others : List (List Row)) (carried other : Carried) (t : ℕ) (alike : CarryTheSame run.domain t carried other) where
  -- if the same was sent before an instant, the same is whole by the instant
  relayed_same : (bridge u m : ℕ) → m < length run.domain.links → u ≤ t → relayed_at run.domain carried bridge u m ≡ relayed_at run.domain other bridge u m
  relayed_same bridge u m h le =
      let d = run.domain in
      let whole = λ (sent : Sent). whole_at d m sent == u in
      let before = λ (sent : Sent). nat_lt sent.start.0 t in
      let sooner : (sent : Sent) → whole sent ≡ true → before sent ≡ true =
      λ sent w. lt-ltb sent.start.0 t (omega (arith, whole_later d m sent h, eqb-true (whole_at d m sent) u w, le)) in
      let same : filter whole (carried m) ≡ filter whole (other m) =
      filter_weaker whole before (carried m) (λ sent c. sooner sent) ∙ ap (filter whole) (alike m h)
      ∙ sym (filter_weaker whole before (other m) (λ sent c. sooner sent)) in
      ap (λ (sents : List Sent). cond (enters d m bridge) (map (sent_received d m) sents) []) same

  -- so what arrives at a bridge at such an instant is the same
  received_same : (bridge u : ℕ) → u ≤ t → received_at run carried bridge u ≡ received_at run other bridge u
  received_same bridge u le =
      ap (λ (xs : List Received). xs ++ offered_at run.offers bridge u)
      (same_below (relayed_at run.domain carried bridge u) (relayed_at run.domain other bridge u) (length run.domain.links)
      (λ m h. relayed_same bridge u m h le))

  -- and the verdicts up to it are, by tables that agree there
  pub policed_same : (bridge n : ℕ) → n ≤ suc t → TablesAgree run others n →
      policed_before run carried bridge n ≡ policed_before (with_tables run others) other bridge n
  policed_same bridge n le same =
      let d = run.domain in
      police_same d run.tables bridge others [] (received_before run carried bridge n) (λ x h. same x.at (before_when run carried bridge n x h))
      ∙ ap (λ (xs : List Received). police_all d others bridge [] xs)
      (same_below (received_at run carried bridge) (received_at run other bridge) n (λ u l. received_same bridge u (omega (arith, l, le))))

  -- and what is queued to a port
  queued_same : (l n : ℕ) → n ≤ suc t → TablesAgree run others n → queued_before run carried l n ≡ queued_before (with_tables run others) other l n
  queued_same l n le same = ap (queued_to run.domain l) (policed_same (bridge_of run.domain l) n le same)

  -- and what arrives at it in the cycles that are over by then
  pub comes_same : (l cycles : ℕ) → cycles * run.domain.cycle_time ≤ suc t → TablesAgree run others (cycles * run.domain.cycle_time) →
      comes_before run carried l cycles ≡ comes_before (with_tables run others) other l cycles
  comes_same l cycles le same =
      let d = run.domain in
      let beyond = with_tables run others in
      same_below (comes_in run carried l) (comes_in beyond other l) cycles (λ cycle k.
      let upto : (cycle + 1) * d.cycle_time ≤ cycles * d.cycle_time = mul-le-mul_right d.cycle_time (omega (arith, k)) in
      ap (λ (xs : List QueuedFrame). backed_in d run.background l cycle ++ filter (λ (x : QueuedFrame). cycle_of d x.arrival.at.0 == cycle) xs)
      (queued_same l ((cycle + 1) * d.cycle_time) (omega (arith, upto, le)) (λ u h. same u (omega (arith, h, upto)))))

-- two runs with one past have the same frames and verdicts at their bridges
pub bridges_by_past : (run : Run) (others : List (List Row)) (carried other : Carried) (cycles bridge : ℕ) → HaveOnePast run others carried other cycles →
    policed_before run carried bridge (cycles * run.domain.cycle_time) ≡ policed_before (with_tables run others) other bridge (cycles * run.domain.cycle_time)
bridges_by_past run others carried other cycles bridge past =
    let end = cycles * run.domain.cycle_time in
    policed_same run others carried other end past.links bridge end (omega arith) (tables_until run others cycles past.tables)

-- and the same frames at their ports
pub ports_by_past : (run : Run) (others : List (List Row)) (carried other : Carried) (cycles l : ℕ) → HaveOnePast run others carried other cycles →
    comes_before run carried l cycles ≡ comes_before (with_tables run others) other l cycles
ports_by_past run others carried other cycles l past =
    comes_same run others carried other (cycles * run.domain.cycle_time) past.links l cycles (omega arith) (tables_until run others cycles past.tables)

-- two lists have one front, and the rest of each comes at an instant or later
pub record HaveOneFront (n : ℕ) (xs ys : List QueuedFrame) : Type 0 where
  pub front : List QueuedFrame
  pub first : Front xs front (Late n)
  pub second : Front ys front (Late n)

-- what arrives at a port in the first cycles up to an instant of the last: what came before that cycle, its background frames, and the
-- streams' frames that are queued in it up to the instant
abbrev front_at : Run → Carried → ℕ → ℕ → ℕ → List QueuedFrame
front_at run carried l cycle n =
    comes_before run carried l cycle
    ++ (backed_in run.domain run.background l cycle ++ filter (λ (x : QueuedFrame). cycle_of run.domain x.arrival.at.0 == cycle)
    (queued_before run carried l n))

-- it is a front of what arrives in these cycles
comes_front : (run : Run) (carried : Carried) (l cycle n : ℕ) → n ≤ (cycle + 1) * run.domain.cycle_time →
    Front (comes_before run carried l (suc cycle)) (front_at run carried l cycle n) (Late n)
comes_front run carried l cycle n le =
    let last = (cycle + 1) * run.domain.cycle_time in
    let of_cycle = λ (x : QueuedFrame). cycle_of run.domain x.arrival.at.0 == cycle in
    let own = backed_in run.domain run.background l cycle in
    let queued = front_filter of_cycle (queued_before run carried l last) (queued_before run carried l n) (Late n) (queued_front run carried l n last le) in
    front_after (comes_before run carried l cycle) (comes_in run carried l cycle) (own ++ filter of_cycle (queued_before run carried l n)) (Late n)
    (front_after own (queued_in run carried l cycle) (filter of_cycle (queued_before run carried l n)) (Late n) queued)

-- if two networks carry the same before an instant, the queues of a port have one front up to it
pub one_front : (run : Run) (carried other : Carried) (t : ℕ) → CarryTheSame run.domain t carried other → (l n cycles : ℕ) → n ≤ suc t →
    HaveOneFront n (comes_before run carried l cycles) (comes_before run other l cycles)
one_front run carried other t alike l n zero le =
    record { front = []; first = front_whole [] [] (Late n) refl; second = front_whole [] [] (Late n) refl }
one_front run carried other t alike l n (suc cycle) le =
    let d = run.domain in
    let begins = cycle * d.cycle_time in
    let ends = (cycle + 1) * d.cycle_time in
    elim (cases_lt n ends) [
      | inr over ↦
          let whole = comes_before run other l (suc cycle) in
          let last : suc cycle * d.cycle_time ≤ suc t = omega (arith, over, le) in
          record {
            front = whole;
            first = front_whole (comes_before run carried l (suc cycle)) whole (Late n)
                (comes_same run run.tables carried other t alike l (suc cycle) last (λ u h. refl));
            second = front_whole whole whole (Late n) refl;
          }
      | inl within ↦ elim (cases_lt n begins) [
        | inl before ↦
            let r = one_front run carried other t alike l n cycle le in
            record {
              front = r.front;
              first = front_more (comes_before run carried l cycle) r.front (comes_in run carried l cycle) (Late n) r.first
                  (λ x h. omega (arith, before, comes_in_late run carried l cycle x h));
              second = front_more (comes_before run other l cycle) r.front (comes_in run other l cycle) (Late n) r.second
                  (λ x h. omega (arith, before, comes_in_late run other l cycle x h));
            }
        | inr begun ↦
            let same : front_at run other l cycle n ≡ front_at run carried l cycle n =
            ap₂ (λ (xs ys : List QueuedFrame). xs
            ++ (backed_in d run.background l cycle ++ filter (λ (x : QueuedFrame). cycle_of d x.arrival.at.0 == cycle) ys))
            (sym (comes_same run run.tables carried other t alike l cycle (omega (arith, begun, le)) (λ u h. refl)))
            (sym (queued_same run run.tables carried other t alike l n le (λ u h. refl))) in
            record {
              front = front_at run carried l cycle n;
              first = comes_front run carried l cycle n (omega (arith, within));
              second = subst (λ (xs : List QueuedFrame). Front (comes_before run other l (suc cycle)) xs (Late n)) same
                  (comes_front run other l cycle n (omega (arith, within)));
            }
      ]
    ]
