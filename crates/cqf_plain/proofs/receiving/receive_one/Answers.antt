use Rattle.std.proofs.Common.{ℕ, ◌∙◌, ap, refl, subst, sym}
use Rattle.cqf_bridge.specs.Receiving.{IsReceiveFault, IsRunOfBridge, ReceivesCycle}
use Rattle.cqf_agenda.specs.Agenda.{offers_listed_at}
use Rattle.cqf_plain.proofs.Received.{come_so, lost_so, received_so, run_so}
use Rattle.cqf_plain.proofs.receiving.receive_one.Goals as goal

-- the run's input for the bridge
pub receive-requires : goal.receive-requires
receive-requires c =
    let p = c.requires.part in
    let offered = c.offers-offers.ensures ∙ ap (offers_listed_at c.args.driven.now.agenda) c.cycle-cycle.ensures in
    record {
      offers = (
        p.0,
        subst (λ (n : ℕ). IsRunOfBridge c.args.driven.now.bridge.domain c.args.driven.now.bridge.number n c.args.table.now.rows c.offers-offers.result.now p.0)
            (sym c.cycle-cycle.ensures)
            (run_so p.0 p.1 c.args.table.now p.3 p.4 p.2 c.args.driven.now p.5 c.as_slice.result.now c.offers-offers.result.now c.as_slice.ensures.value offered
            c.new_bridge_follows.ensures.offers),
      );
    }

-- it is received
pub returns-in-Ok-clause-receives : goal.returns-in-Ok-clause-receives
returns-in-Ok-clause-receives c = λ run net bridge of is_table stands.
    let offered = c.offers-offers.ensures ∙ ap (offers_listed_at c.args.driven.now.agenda) c.cycle-cycle.ensures in
    let so = subst (λ (n : ℕ). IsRunOfBridge c.args.driven.now.bridge.domain c.args.driven.now.bridge.number n c.args.table.now.rows
    c.offers-offers.result.now run) (sym c.cycle-cycle.ensures)
    (run_so run net c.args.table.now of is_table bridge c.args.driven.now stands c.as_slice.result.now c.offers-offers.result.now
    c.as_slice.ensures.value offered
    c.new_bridge_follows.ensures.offers) in
    received_so run net c.args.table.now of is_table bridge c.args.driven.now stands c.as_slice.result.now c.offers-offers.result.now
    c.as_slice.ensures.value offered
    c.receiving_follows.ensures c.verdicts_are_the_runs.ensures.verdicts _ c.in-Ok.drops.items
    (subst (λ (n : ℕ). ReceivesCycle run c.args.driven.now.bridge c.receive.new.self n c.as_slice.result.now c.in-Ok.drops.items) c.cycle-cycle.ensures
    (c.in-Ok.ensures.receives run so)) refl c.clear.ensures.items

-- or a frame is lost
pub why_lost-requires : goal.why_lost-requires
why_lost-requires c =
    let p = c.requires.part in
    let offered = c.offers-offers.ensures ∙ ap (offers_listed_at c.args.driven.now.agenda) c.cycle-cycle.ensures in
    let so = subst (λ (n : ℕ). IsRunOfBridge c.args.driven.now.bridge.domain c.args.driven.now.bridge.number n c.args.table.now.rows
    c.offers-offers.result.now p.0) (sym c.cycle-cycle.ensures)
    (run_so p.0 p.1 c.args.table.now p.3 p.4 p.2 c.args.driven.now p.5 c.as_slice.result.now c.offers-offers.result.now c.as_slice.ensures.value offered
    c.new_bridge_follows.ensures.offers) in
    let refused = subst (λ (n : ℕ). IsReceiveFault p.0 c.args.driven.now.bridge c.receive.new.self n
    (record { table_cycle = c.args.table.now.cycle; rows = c.args.table.now.rows; batches = c.as_slice.result.now }) c.in-Err.fault) c.cycle-cycle.ensures
    (c.in-Err.ensures.fault p.0 so) in
    record {
      early = c.requires.early;
      part = (
        p.0,
        p.1,
        p.2,
        p.3,
        p.4,
        come_so p.0 p.1 c.args.table.now p.3 p.4 p.2 c.args.driven.now p.5 c.as_slice.result.now c.offers-offers.result.now c.as_slice.ensures.value offered
            (record c.args.driven.now { bridge = c.receive.new.self }) c.in-Err.fault refused refl refl,
        lost_so p.0 p.1 c.args.table.now p.3 p.4 p.2 c.args.driven.now p.5 c.as_slice.result.now c.offers-offers.result.now c.as_slice.ensures.value offered
            c.verdicts_are_the_runs.ensures.verdicts c.verdicts_are_the_runs.ensures.batches c.receive.new.self c.in-Err.fault refused c.in_default.not-Memory,
      );
    }

-- this one
pub returns-in_default-clause-stops : goal.returns-in_default-clause-stops
returns-in_default-clause-stops c = λ run net bridge of is_table stands.
    let offered = c.offers-offers.ensures ∙ ap (offers_listed_at c.args.driven.now.agenda) c.cycle-cycle.ensures in
    let so = subst (λ (n : ℕ). IsRunOfBridge c.args.driven.now.bridge.domain c.args.driven.now.bridge.number n c.args.table.now.rows
    c.offers-offers.result.now run) (sym c.cycle-cycle.ensures)
    (run_so run net c.args.table.now of is_table bridge c.args.driven.now stands c.as_slice.result.now c.offers-offers.result.now
    c.as_slice.ensures.value offered
    c.new_bridge_follows.ensures.offers) in
    let refused = subst (λ (n : ℕ). IsReceiveFault run c.args.driven.now.bridge c.receive.new.self n
    (record { table_cycle = c.args.table.now.cycle; rows = c.args.table.now.rows; batches = c.as_slice.result.now }) c.in-Err.fault) c.cycle-cycle.ensures
    (c.in-Err.ensures.fault run so) in
    c.why_lost.ensures run net bridge of is_table
    (come_so run net c.args.table.now of is_table bridge c.args.driven.now stands c.as_slice.result.now c.offers-offers.result.now
    c.as_slice.ensures.value offered
    (record c.args.driven.now { bridge = c.receive.new.self }) c.in-Err.fault refused refl refl)
