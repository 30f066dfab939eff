-- Lenient inner gates change nothing. If all verdicts before a cycle are those of the streams' own gates, the links send up to the cycle's
-- end what these demand, since a frame that is queued in the cycle waits for the next. So what is sent is the legal network of a shorter
-- run, in which nothing is lost inside, and the verdicts of the cycle are the same too.
use Rattle.std.proofs.Common.{◌≡◌, ℕ, zero, suc, ◌+◌, ◌*◌, ◌<◌, ◌≤◌, List, length, sym, refl, ap, ◌∙◌, inl, inr, arith, subst, append_assoc, eqb-true, Contains}
use Rattle.std.specs.Prelude.{[], ◌++◌, filter, ◌==◌}
use Rattle.std.proofs.Math.Nat.{mul-le-mul_right}
use Rattle.std.proofs.lemmas.Bool.{cases_lt}
use Rattle.std.proofs.lemmas.List.Elements.{Contains-append_cases, Contains-append_left}
use Rattle.cqf_lists.proofs.EachBelow.{same_below}
use Rattle.cqf_lists.proofs.Fronts.{Front, each_front, front_whole}
use Rattle.cqf_lists.proofs.Members.{contains_from_filter, contains_from_map}
use Rattle.cqf_units.proofs.Cycles.{cycle_from}
use Rattle.cqf_model.specs.declared.frames.Sent.{Sent}
use Rattle.cqf_model.specs.declared.ports.Arrival.{Arrival}
use Rattle.cqf_model.specs.declared.ports.Start.{Start}
use Rattle.cqf_model.specs.Domain.{Domain, bridge_of, cycle_of, guard_of, octet_time_of}
use Rattle.cqf_model.specs.GateList.{IsOpen}
use Rattle.cqf_model.specs.Network.{IsLoss, IsNetworkBy, Network, QueuedFrame, Sends, arrivals_of, backed_in, comes_before, compiled_lists, queued_to}
use Rattle.cqf_model.specs.Promise.{MeansTheShiftAs}
use Rattle.cqf_model.specs.Run.{AreBackground, Run, end_of_run}
use Rattle.cqf_model.specs.Policing.{Carried, Policed, policed_before, received_before}
use Rattle.cqf_model.proofs.Arrivals.{IsClosedUntil}
use Rattle.cqf_model.proofs.Coming.{backed_in_late, policed_front}
use Rattle.cqf_model.proofs.Links.{guard_within, octet_positive}
use Rattle.cqf_laws_network.specs.PortLaws.{LateArrivalChangesNothing, LegalPartIsLegalForTheSamePast}
use Rattle.cqf_laws_network.specs.NetworkLaws.{backed_before, network_before, sent_before}
use Rattle.cqf_laws_network.proofs.Came.{Late}
use Rattle.cqf_laws_network.proofs.Ports.{port_part}
use Rattle.cqf_laws_cycle.specs.Compiled.{GateGivesClass, PortListIsOpen}
use Rattle.cqf_laws_cycle.specs.PortCycle.{waits_in}
use Rattle.cqf_laws_cycle.proofs.PortCycles.{fewer_sends, queued_waits, sends_of_all}
use Rattle.cqf_laws_shift.specs.Alone.{IsPlanned}
use Rattle.cqf_laws_shift.specs.Heard.{AreHeard, IsHeardRun}
use Rattle.cqf_laws_shift.proofs.CycleLaws.{CycleLaws}
use Rattle.cqf_laws_shift.proofs.MainLaws.{alone_means_the_shift}
use Rattle.cqf_laws_shift.proofs.RunsBeside.{run_as}
use Rattle.cqf_laws_gates.specs.InnerGates.{AreLenient, InnerGates, IsNetworkWith, comes_before_by, comes_in_by, policed_by, queued_by_gates}
use Rattle.cqf_laws_gates.proofs.Past.{beginning, heard_before, meets_before}
use Rattle.cqf_laws_gates.proofs.Past.{comes_same as comes_same_before, policed_same as policed_same_before}
use Rattle.cqf_laws_gates.proofs.Shorter.{count_taken, orderly_taken}
use Rattle.cqf_laws_gates.proofs.Verdicts.{police_all_same}

-- what is queued in a cycle, by any verdicts, waits until the cycle's end
closed_until : GateGivesClass → PortListIsOpen → (d : Domain) (policed : List Policed) (l cycle : ℕ) → guard_of d l < d.cycle_time → (x : Arrival) →
    Contains (arrivals_of (filter (λ (q : QueuedFrame). cycle_of d q.arrival.at.0 == cycle) (queued_to d l policed))) x →
    IsClosedUntil (record { entries = compiled_lists d l; octet_time = octet_time_of d l }) ((cycle + 1) * d.cycle_time) x
closed_until gives opens d policed l cycle short x h t came upto is_open =
    let of_cycle = λ (q : QueuedFrame). cycle_of d q.arrival.at.0 == cycle in
    let w = contains_from_map (λ (q : QueuedFrame). q.arrival) (filter of_cycle (queued_to d l policed)) x h in
    let k = contains_from_filter of_cycle (queued_to d l policed) w.0 w.1 in
    let here : cycle_of d w.0.arrival.at.0 ≡ cycle = eqb-true (cycle_of d w.0.arrival.at.0) cycle k.1 in
    queued_waits gives opens d l t policed w.0 short k.0
    (omega (arith, came, ap (λ (y : Arrival). y.at.0) w.2))
    (omega (arith, upto, ap (λ (c : ℕ). (c + 1) * d.cycle_time) here))
    (subst (λ (y : Arrival). IsOpen (compiled_lists d l) y.class t) (sym w.2) is_open)

module _ (laws : CycleLaws) (run : Run) (gates : InnerGates) (net : Network) (heard : Carried) (lenient : AreLenient run.domain gates)
    (planned : IsPlanned run) (background : AreBackground run.domain run.background) (meets : AreHeard run.domain net.carried heard) where
  -- the verdicts before each of the first cycles' ends are those of the streams' own gates
  abbrev pub Same : ℕ → Type 0
  Same cycles = (j : ℕ) → j ≤ cycles → (bridge : ℕ) →
      policed_by run gates heard bridge (j * run.domain.cycle_time) ≡ policed_before run heard bridge (j * run.domain.cycle_time)

  -- so what arrives at a port in these cycles is the same
  comes_same : (cycles l : ℕ) → Same cycles → comes_before_by run gates heard l cycles ≡ comes_before run heard l cycles
  comes_same cycles l same =
      let d = run.domain in
      same_below _ _ cycles (λ cycle k.
      ap (λ (ps : List Policed). backed_in d run.background l cycle
      ++ filter (λ (x : QueuedFrame). cycle_of d x.arrival.at.0 == cycle) (queued_to d l ps))
      (same (cycle + 1) (omega (arith, k)) (bridge_of d l)))

  -- before the first cycle nothing arrives
  none_before : (bridge j : ℕ) → j ≡ 0 →
      policed_by run gates heard bridge (j * run.domain.cycle_time) ≡ policed_before run heard bridge (j * run.domain.cycle_time)
  none_before bridge j e =
      let times_zero : 0 * run.domain.cycle_time ≡ 0 = omega arith in
      let is : j * run.domain.cycle_time ≡ 0 = ap (λ (k : ℕ). k * run.domain.cycle_time) e ∙ times_zero in
      subst (λ (end : ℕ). policed_by run gates heard bridge end ≡ policed_before run heard bridge end) (sym is) refl

  -- what a run with the streams' own gates says of its shift, if it is a legal one
  means : IsNetworkBy run (compiled_lists run.domain) (length run.tables) net heard → MeansTheShiftAs run net.carried heard
  means legal =
      let is : IsHeardRun run net heard =
      record {
        accepted = planned.accepted;
        orderly = planned.orderly;
        offered = planned.offered;
        background = background;
        legal = legal;
        meets = meets;
      } in
      alone_means_the_shift laws run net.carried (run_as laws run net heard is)

  -- the streams' own gates lose nothing inside then, so the verdicts are the same in all cycles
  pub same_of_own : IsNetworkBy run (compiled_lists run.domain) (length run.tables) net heard → Same (length run.tables)
  same_of_own legal j upto bridge =
      let d = run.domain in
      let n = d.cycle_time in
      let le : j * n ≤ length run.tables * n = mul-le-mul_right n upto in
      let f = policed_front run heard bridge (j * n) (length run.tables * n) le in
      police_all_same d gates run.tables bridge lenient [] (received_before run heard bridge (j * n)) (λ p h loss.
      (means legal).none_lost bridge p (record {
        came = subst (λ (ps : List Policed). Contains ps p) (sym f.is) (Contains-append_left (policed_before run heard bridge (j * n)) f.rest p h);
        lost = loss;
      }))

  -- a network with the streams' own gates is one with lenient inner gates
  pub lenient_of_own : IsNetworkBy run (compiled_lists run.domain) (length run.tables) net heard → IsNetworkWith run gates net heard
  lenient_of_own legal = record {
    sends = λ l h.
        subst (λ (xs : List QueuedFrame). Sends run.domain (compiled_lists run.domain l) (end_of_run run) l xs (net.carried l) (net.backed l))
        (sym (comes_same (length run.tables) l (same_of_own legal))) (legal.sends l h);
    no_others = legal.no_others;
  }

  -- and the other way round
  module _ (late : LateArrivalChangesNothing) (part : LegalPartIsLegalForTheSamePast) (opens : PortListIsOpen) (legal : IsNetworkWith run gates net heard) where
    module _ (cycle : ℕ) (within : cycle + 1 ≤ length run.tables) (same : Same cycle) where
      -- the cycle's end
      abbrev last : ℕ
      last = (cycle + 1) * run.domain.cycle_time

      -- the run up to it, what its links send, and what is heard of that
      abbrev shorter : Run
      shorter = beginning run net.carried heard meets (cycle + 1)

      abbrev sent : Network
      sent = network_before last net

      abbrev received : Carried
      received = heard_before run net.carried heard meets (cycle + 1)

      -- what comes in a later cycle comes after it
      later : (l k : ℕ) (x : QueuedFrame) → cycle + 1 ≤ k → Contains (comes_in_by run gates heard l k) x → Late last x
      later l k x from h =
          let d = run.domain in
          let at = x.arrival.at.0 in
          let of_cycle = λ (q : QueuedFrame). cycle_of d q.arrival.at.0 == k in
          let queued = queued_to d l (policed_by run gates heard (bridge_of d l) ((k + 1) * d.cycle_time)) in
          let begun : last ≤ k * d.cycle_time = mul-le-mul_right d.cycle_time from in
          elim (Contains-append_cases (backed_in d run.background l k) (queued_by_gates run gates heard l k) x h) [
            | inl c ↦ omega (arith, begun, backed_in_late d run.background l k x c)
            | inr c ↦
                let is : cycle_of d at ≡ k = eqb-true (cycle_of d at) k (contains_from_filter of_cycle queued x c).1 in
                omega (arith, begun, cycle_from d.cycle_time at, ap (λ (z : ℕ). z * d.cycle_time) is)
          ]

      module _ (l : ℕ) (is_link : l < length run.domain.links) where
        -- what the link sends up to the cycle's end
        abbrev sents : List Sent
        sents = sent_before last (net.carried l)

        abbrev backed : List Start
        backed = backed_before last (net.backed l)

        abbrev SendsOf : List QueuedFrame → Type 0
        SendsOf queued = Sends run.domain (compiled_lists run.domain l) last l queued sents backed

        -- it goes by what arrived up to then
        sends_so_far : SendsOf (comes_before_by run gates heard l (cycle + 1))
        sends_so_far =
            let d = run.domain in
            let all = comes_before_by run gates heard l (length run.tables) in
            let queue = comes_before_by run gates heard l (cycle + 1) in
            let r = each_front (comes_in_by run gates heard l) (cycle + 1) (length run.tables) within in
            let front : Front all queue (Late last) =
            record { rest = r.rest; is = r.is; late = λ x h. let w = r.late x h in later l w.0 x w.1 w.3 } in
            port_part d (compiled_lists d l) l last (end_of_run run) all queue queue (net.carried l) (net.backed l) front
            (front_whole queue queue (Late last) refl) (legal.sends l is_link) part (mul-le-mul_right d.cycle_time within)

        -- so by what arrived before the cycle, and the background frames of the cycle
        sends_what_waits : SendsOf (waits_in run heard l cycle)
        sends_what_waits =
            let d = run.domain in
            let before = comes_before_by run gates heard l cycle in
            let now = backed_in d run.background l cycle in
            let queued = queued_by_gates run gates heard l cycle in
            let e : cycle + 1 ≡ suc cycle = omega arith in
            let parts : comes_before_by run gates heard l (cycle + 1) ≡ (before ++ now) ++ queued =
            ap (comes_before_by run gates heard l) e ∙ sym (append_assoc before now queued) in
            let waiting : SendsOf (before ++ now) =
            fewer_sends d (compiled_lists d l) last l (before ++ now) queued sents backed (octet_positive d l is_link)
            (closed_until laws.gives opens d (policed_by run gates heard (bridge_of d l) last) l cycle (guard_within d l planned.accepted))
            (subst SendsOf parts sends_so_far) in
            subst (λ (xs : List QueuedFrame). SendsOf (xs ++ now)) (comes_same cycle l same) waiting

        -- which is what the shorter run's port sends
        sends_shorter : SendsOf (comes_before shorter received l (cycle + 1))
        sends_shorter =
            let d = run.domain in
            subst SendsOf (comes_same_before run net.carried heard meets (cycle + 1) l)
            (sends_of_all late laws.gives opens run heard cycle l sents backed (guard_within d l planned.accepted) is_link sends_what_waits)

      -- so the links' frames up to the cycle's end are a legal network of the shorter run
      network_shorter : IsNetworkBy shorter (compiled_lists run.domain) (cycle + 1) sent received
      network_shorter = record {
        sends = sends_shorter;
        no_others = λ l g. (ap (sent_before last) (legal.no_others l g).0, ap (backed_before last) (legal.no_others l g).1);
      }

      -- as many tables as cycles
      tables_shorter : length shorter.tables ≡ cycle + 1
      tables_shorter = count_taken run.tables (cycle + 1) within

      -- so the shorter run says its shift
      shorter_means : MeansTheShiftAs shorter sent.carried received
      shorter_means =
          let is : IsHeardRun shorter sent received =
          record {
            accepted = planned.accepted;
            orderly = orderly_taken run.tables (cycle + 1) within run.domain planned.orderly;
            offered = planned.offered;
            background = background;
            legal = subst (λ (count : ℕ). IsNetworkBy shorter (compiled_lists run.domain) count sent received) (sym tables_shorter) network_shorter;
            meets = meets_before run net.carried heard meets (cycle + 1);
          } in
          alone_means_the_shift laws shorter sent.carried (run_as laws shorter sent received is)

      -- it loses nothing inside
      none_lost : (bridge : ℕ) (p : Policed) → Contains (policed_before run heard bridge last) p → IsLoss p.verdict → ⊥
      none_lost bridge p h loss =
          let d = run.domain in
          let there : policed_before run heard bridge last ≡ policed_before shorter received bridge last =
          policed_same_before run net.carried heard meets (cycle + 1) bridge last (omega arith) in
          let end : last ≡ length shorter.tables * d.cycle_time = ap (λ (count : ℕ). count * d.cycle_time) (sym tables_shorter) in
          shorter_means.none_lost bridge p (record {
            came = subst (λ (t : ℕ). Contains (policed_before shorter received bridge t) p) end
                (subst (λ (ps : List Policed). Contains ps p) there h);
            lost = loss;
          })

      -- so the verdicts of the cycle are those of the streams' own gates
      same_next : (bridge : ℕ) → policed_by run gates heard bridge last ≡ policed_before run heard bridge last
      same_next bridge =
          police_all_same run.domain gates run.tables bridge lenient [] (received_before run heard bridge last) (none_lost bridge)

    -- and so are all verdicts
    same_all : (cycles : ℕ) → cycles ≤ length run.tables → Same cycles
    same_all zero upto j le bridge = none_before bridge j (omega (arith, le))
    same_all (suc c) upto j le bridge = elim (cases_lt j (suc c)) [
      | inl l ↦ same_all c (omega (arith, upto)) j (omega (arith, l)) bridge
      | inr g ↦
          let is : c + 1 ≡ j = omega (arith, le, g) in
          subst (λ (k : ℕ). policed_by run gates heard bridge (k * run.domain.cycle_time) ≡ policed_before run heard bridge (k * run.domain.cycle_time)) is
          (same_next c (omega (arith, upto)) (same_all c (omega (arith, upto))) bridge)
    ]

    -- so the network is one with the streams' own gates
    pub own_of_lenient : IsNetworkBy run (compiled_lists run.domain) (length run.tables) net heard
    own_of_lenient = record {
      sends = λ l h.
          subst (λ (xs : List QueuedFrame). Sends run.domain (compiled_lists run.domain l) (end_of_run run) l xs (net.carried l) (net.backed l))
          (comes_same (length run.tables) l (same_all (length run.tables) (omega arith))) (legal.sends l h);
      no_others = legal.no_others;
    }
