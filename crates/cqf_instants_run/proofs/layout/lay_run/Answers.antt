use Rattle.std.proofs.Common.{◌≡◌, ◌*◌, ℕ, List, ap, ap₂, arith, length, subst, sym}
use Rattle.cqf_instants.specs.declared.laying.Group.{Group}
use Rattle.cqf_instants_run.specs.Entered.{AreEntered}
use Rattle.cqf_instants_run.proofs.Runs.{lays, low_links}
use Rattle.cqf_instants_run.proofs.Streams.{few_streams}
use Rattle.cqf_instants_run.proofs.layout.lay_run.Goals as goal

pub lay_streams-requires-clause-few : goal.lay_streams-requires-clause-few
lay_streams-requires-clause-few c =
    let some = c.requires.history in
    omega (arith, few_streams c.args.domain.now some.entries some.is.legal, ap length some.is.streams)

pub lay_streams-requires-clause-links : goal.lay_streams-requires-clause-links
lay_streams-requires-clause-links c =
    let some = c.requires.history in
    low_links c.args.domain.now some.entries c.args.rows.now c.cycle_time-cycle_time.ensures.accepted some.is.legal some.is.streams

pub returns : goal.returns
returns c =
    let d = c.args.domain.now in
    let rows = c.args.rows.now in
    let offers = c.args.offers.now in
    let edge_verdicts = c.args.edge_verdicts.now in
    let groups = c.in_ok-branches.groups.items in
    let end : c.from.result * c.cycle_time-cycle_time.result.0 ≡ c.args.cycles * d.cycle_time =
    ap₂ (λ (a b : ℕ). a * b) c.from.ensures c.cycle_time-cycle_time.ensures.value in
    let entered : AreEntered (c.args.cycles * d.cycle_time) offers edge_verdicts groups (length offers) c.in_ok-offers.offers.items =
    subst (λ (t : ℕ). AreEntered t offers edge_verdicts groups (length offers) c.in_ok-offers.offers.items) end
    (subst (λ (gs : List Group). AreEntered (c.from.result * c.cycle_time-cycle_time.result.0) offers edge_verdicts gs (length offers) c.in_ok-offers.offers.items)
    c.as_slice.ensures.value c.in_ok-offers.ensures) in
    lays c.tables_are_orderly.ensures.orderly c.tables_are_orderly.ensures.count c.rows_say_the_tables.ensures.tables c.rows_say_the_tables.ensures.live
    c.offers_are_judged.ensures c.what_a_cycle_queues.ensures.covering d rows offers edge_verdicts groups
    (record {
      links = c.in_ok-links.links;
      cycle_time = c.cycle_time-cycle_time.result.0;
      guard = c.guard.result.0;
      cycles = c.args.cycles;
      branches = c.in_ok-branches.branches;
      offers = c.in_ok-offers.offers;
    })
    c.cycle_time-cycle_time.ensures.accepted c.requires.offers c.requires.order c.requires.few c.requires.history (sym c.in_ok-links.ensures)
    c.cycle_time-cycle_time.ensures.value c.guard.ensures c.in_ok-branches.ensures entered
