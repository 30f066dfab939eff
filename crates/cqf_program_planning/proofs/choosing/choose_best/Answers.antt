use Rattle.std.proofs.Common.{◌≡◌, ◌≤◌, ◌+◌, ℕ, [], List, Option, Some, ap, arith, get_or, length, map, subst, sym, take}
use Rattle.std.proofs.lemmas.List.{get_or_default, take_all}
use Rattle.cqf_program_placing.specs.Settled.{settled_value}
use Rattle.cqf_program_planning.specs.declared.choosing.Choice.{Choice}
use Rattle.cqf_program_planning.specs.Trying.{ComesOfSome}
use Rattle.cqf_program_planning.proofs.BestLemmas.{best_is_chosen, choice_step}
use Rattle.cqf_program_planning.proofs.choosing.choose_best.Goals as goal

-- one more is compared
pub loop-cycle_time-preserved : goal.loop-cycle_time-preserved
loop-cycle_time-preserved c =
    let cycles = c.candidates-cycle_time-items.result.now in
    let those = map settled_value c.args.streams.now in
    let k = c.loop-cycle_time.cycle_time-index in
    let low = c.loop-cycle_time-test.true in
    subst (λ (so : Choice). ComesOfSome c.args.network.now those c.args.search.tries (take (k + 1) cycles) (Some so)) (sym c.preferred.ensures)
    (choice_step c.args.network.now those c.args.search.tries cycles k (get_or cycles k 0) c.loop-cycle_time.choice c.in_ok-next.next low
    (get_or_default cycles k 0 (get_or cycles k 0) low) c.loop-cycle_time.invariant c.in_ok-next.ensures)

-- all are compared
pub returns : goal.returns
returns c =
    let cycles = c.candidates-cycle_time-items.result.now in
    let those = map settled_value c.args.streams.now in
    best_is_chosen c.args.network.now those c.args.search c.in-Some.choice c.requires.best c.requires.settled.placeable
    (subst (λ (xs : List ℕ). ComesOfSome c.args.network.now those c.args.search.tries xs (Some c.in-Some.choice)) c.candidates-cycle_time-items.ensures.value
    (subst (λ (so : Option Choice). ComesOfSome c.args.network.now those c.args.search.tries cycles so) c.in-Some.is
    (subst (λ (xs : List ℕ). ComesOfSome c.args.network.now those c.args.search.tries xs c.loop-cycle_time.choice)
    (take_all c.loop-cycle_time.cycle_time-index cycles c.loop-cycle_time-test.false) c.loop-cycle_time.invariant)))

-- and there is one
pub unreachable-requires : goal.unreachable-requires
unreachable-requires c =
    let cycles = c.candidates-cycle_time-items.result.now in
    let those = map settled_value c.args.streams.now in
    let none : cycles ≡ [] =
    subst (λ (so : Option Choice). ComesOfSome c.args.network.now those c.args.search.tries cycles so) c.in-None.is
    (subst (λ (xs : List ℕ). ComesOfSome c.args.network.now those c.args.search.tries xs c.loop-cycle_time.choice)
    (take_all c.loop-cycle_time.cycle_time-index cycles c.loop-cycle_time-test.false) c.loop-cycle_time.invariant) in
    let few : length cycles ≡ 0 = ap length none in
    let some : 1 ≤ length cycles = c.candidates-cycle_time-items.ensures.few.some_cycle in
    omega (arith, few, some)
