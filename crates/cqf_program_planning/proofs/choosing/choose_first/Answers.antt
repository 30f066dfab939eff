use Rattle.std.proofs.Common.{ℕ, List, Option, get_or, map, subst, sym}
use Rattle.std.proofs.lemmas.List.{get_or_default, take_all}
use Rattle.cqf_program_placing.specs.Settled.{settled_value}
use Rattle.cqf_program_planning.specs.declared.candidates.Candidate.{Candidate}
use Rattle.cqf_program_planning.specs.Trying.{AreBad, ComesOf}
use Rattle.cqf_program_planning.proofs.ChoiceLemmas.{bad_step, good_is_planned, none_best}
use Rattle.cqf_program_planning.proofs.choosing.choose_first.Goals as goal

-- the first good one is taken
pub returns-in-Planned : goal.returns-in-Planned
returns-in-Planned c =
    let cycles = c.candidates-cycle_time-items.result.now in
    let those = map settled_value c.args.streams.now in
    let k = c.loop-cycle_time.cycle_time-index in
    let low = c.loop-cycle_time-test.true in
    good_is_planned c.args.network.now those c.args.search cycles k (get_or cycles k 0) c.loop-cycle_time.nearest c.in-Planned.tried c.requires.first low
    (get_or_default cycles k 0 (get_or cycles k 0) low) c.requires.settled.placeable (sym c.candidates-cycle_time-items.ensures.value) c.loop-cycle_time.invariant
    (subst (ComesOf c.args.network.now those c.args.search.tries (get_or cycles k 0)) c.in-Planned.is c.in_ok-tried.ensures)

-- one that isn't good is kept if it is the nearest
pub loop-cycle_time-preserved : goal.loop-cycle_time-preserved
loop-cycle_time-preserved c =
    let cycles = c.candidates-cycle_time-items.result.now in
    let those = map settled_value c.args.streams.now in
    let k = c.loop-cycle_time.cycle_time-index in
    let low = c.loop-cycle_time-test.true in
    bad_step c.args.network.now those c.args.search.tries cycles k (get_or cycles k 0) low (get_or_default cycles k 0 (get_or cycles k 0) low)
    c.loop-cycle_time.nearest c.in-Unplanned.candidate c.nearer.result c.loop-cycle_time.invariant
    (subst (ComesOf c.args.network.now those c.args.search.tries (get_or cycles k 0)) c.in-Unplanned.is c.in_ok-tried.ensures) c.nearer.ensures

-- and there is one
pub unreachable-requires : goal.unreachable-requires
unreachable-requires c =
    let cycles = c.candidates-cycle_time-items.result.now in
    let those = map settled_value c.args.streams.now in
    none_best c.args.network.now those c.args.search.tries cycles c.candidates-cycle_time-items.ensures.few.some_cycle
    (subst (λ (best : Option Candidate). AreBad c.args.network.now those c.args.search.tries cycles best) c.in-None.is
    (subst (λ (xs : List ℕ). AreBad c.args.network.now those c.args.search.tries xs c.loop-cycle_time.nearest)
    (take_all c.loop-cycle_time.cycle_time-index cycles c.loop-cycle_time-test.false) c.loop-cycle_time.invariant))
