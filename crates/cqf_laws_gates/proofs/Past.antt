-- What arrives before a cycle is what the links sent before it, by the tables of the cycles before it.
use Rattle.std.proofs.Common.{◌≡◌, ℕ, ◌+◌, ◌*◌, ◌/◌, ◌<◌, ◌≤◌, true, cond, List, length, sym, refl, ap, ◌∙◌, arith, eqb-true, Contains}
use Rattle.std.specs.Prelude.{[], ◌++◌, map, filter, nat_lt, take, ◌==◌}
use Rattle.std.proofs.Math.Nat.{mul-le-mul_right}
use Rattle.std.proofs.lemmas.Bool.{lt-ltb}
use Rattle.std.proofs.lemmas.Nat.{div_below}
use Rattle.cqf_lists.proofs.EachBelow.{same_below}
use Rattle.cqf_lists.proofs.Filters.{filter-map, filter_weaker}
use Rattle.cqf_lists.proofs.Members.{contains_from_filter}
use Rattle.cqf_units.proofs.Cycles.{cycle_below, cycle_upto, takes_time}
use Rattle.cqf_model.specs.declared.frames.Sent.{Sent}
use Rattle.cqf_model.specs.declared.topology.Row.{Row}
use Rattle.cqf_model.specs.Domain.{bridge_of, cycle_of, enters}
use Rattle.cqf_model.specs.Network.{QueuedFrame, backed_in, comes_before, comes_in, queued_to}
use Rattle.cqf_model.specs.Run.{Run}
use Rattle.cqf_model.specs.Policing.{Carried, Policed, Received, offered_at, police_all, policed_before, received_at, received_before, relayed_at, sent_received}
use Rattle.cqf_model.specs.Policing.{whole_at}
use Rattle.cqf_model.proofs.Coming.{before_when}
use Rattle.cqf_model.proofs.Policing.{police_same}
use Rattle.cqf_laws_network.specs.NetworkLaws.{carried_before, sent_before, with_tables}
use Rattle.cqf_laws_network.proofs.Networks.{first_tables}
use Rattle.cqf_laws_shift.specs.Heard.{AreHeard}

module _ (run : Run) (carried heard : Carried) (meets : AreHeard run.domain carried heard) (cycles : ℕ) where
  -- the end of the first cycles
  abbrev pub last : ℕ
  last = cycles * run.domain.cycle_time

  -- what is heard of the frames that links send before it
  abbrev pub heard_before : Carried
  heard_before l = map (meets.noted l) (sent_before last (carried l))

  -- the run of these cycles
  abbrev pub beginning : Run
  beginning = with_tables run (take cycles run.tables)

  -- its links' frames are heard as those of the whole run
  pub meets_before : AreHeard run.domain (carried_before last carried) heard_before
  meets_before = record {
    noted = meets.noted;
    are = λ l. refl;
    each = λ l sent is_link h. meets.each l sent is_link (contains_from_filter (λ (x : Sent). nat_lt x.start.0 last) (carried l) sent h).0;
  }

  -- what has fully arrived before the end was sent before it
  sent_sooner : (m : ℕ) (sent : Sent) (u : ℕ) → m < length run.domain.links → Contains (carried m) sent → u < last →
      whole_at run.domain m (meets.noted m sent) ≡ u → sent.start.0 < last
  sent_sooner m sent u h c early is =
      let n = run.domain.cycle_time in
      let some = takes_time n u cycles early in
      let in_cycle : u / n < cycles = cycle_below n u cycles early in
      let sooner : sent.start.0 / n < cycles = omega (arith, (meets.each m sent h c).no_sooner, ap (λ z. z / n) is, in_cycle) in
      let ends : (sent.start.0 / n + 1) * n ≤ cycles * n = mul-le-mul_right n (omega (arith, sooner)) in
      omega (arith, ends, cycle_upto n sent.start.0 some)

  -- so what a link brings at an instant before the end is the same
  relayed_same : (bridge u m : ℕ) → m < length run.domain.links → u < last →
      relayed_at run.domain heard bridge u m ≡ relayed_at run.domain heard_before bridge u m
  relayed_same bridge u m h early =
      let d = run.domain in
      let f = meets.noted m in
      let whole = λ (sent : Sent). whole_at d m sent == u in
      let noted_whole = λ (sent : Sent). whole_at d m (f sent) == u in
      let before = λ (sent : Sent). nat_lt sent.start.0 last in
      let sooner : (sent : Sent) → Contains (carried m) sent → noted_whole sent ≡ true → before sent ≡ true =
      λ sent c w. lt-ltb sent.start.0 last (sent_sooner m sent u h c early (eqb-true (whole_at d m (f sent)) u w)) in
      let same : filter whole (heard m) ≡ filter whole (map f (filter before (carried m))) =
      ap (filter whole) (meets.are m) ∙ filter-map f whole (carried m) ∙ ap (map f) (filter_weaker noted_whole before (carried m) sooner)
      ∙ sym (filter-map f whole (filter before (carried m))) in
      ap (λ (sents : List Sent). cond (enters d m bridge) (map (sent_received d m) sents) []) same

  -- and what arrives at a bridge
  received_same : (bridge n : ℕ) → n ≤ last → received_before run heard bridge n ≡ received_before run heard_before bridge n
  received_same bridge n upto =
      let d = run.domain in
      same_below (received_at run heard bridge) (received_at run heard_before bridge) n (λ u less.
      ap (λ (xs : List Received). xs ++ offered_at run.offers bridge u)
      (same_below (relayed_at d heard bridge u) (relayed_at d heard_before bridge u) (length d.links)
      (λ m h. relayed_same bridge u m h (omega (arith, less, upto)))))

  -- and the verdicts on it
  pub policed_same : (bridge n : ℕ) → n ≤ last → policed_before run heard bridge n ≡ policed_before beginning heard_before bridge n
  policed_same bridge n upto =
      let d = run.domain in
      let first : List (List Row) = take cycles run.tables in
      police_same d run.tables bridge first [] (received_before run heard bridge n) (λ x h.
      let early : x.at < last = omega (arith, before_when run heard bridge n x h, upto) in
      first_tables cycles run.tables (cycle_of d x.at) (div_below x.at d.cycle_time cycles (takes_time d.cycle_time x.at cycles early) early))
      ∙ ap (λ (xs : List Received). police_all d first bridge [] xs) (received_same bridge n upto)

  -- so what arrives at a port in these cycles is the same
  pub comes_same : (l : ℕ) → comes_before run heard l cycles ≡ comes_before beginning heard_before l cycles
  comes_same l =
      let d = run.domain in
      same_below (comes_in run heard l) (comes_in beginning heard_before l) cycles (λ cycle k.
      let upto : (cycle + 1) * d.cycle_time ≤ cycles * d.cycle_time = mul-le-mul_right d.cycle_time (omega (arith, k)) in
      ap (λ (ps : List Policed). backed_in d run.background l cycle
      ++ filter (λ (x : QueuedFrame). cycle_of d x.arrival.at.0 == cycle) (queued_to d l ps))
      (policed_same (bridge_of d l) ((cycle + 1) * d.cycle_time) upto))
