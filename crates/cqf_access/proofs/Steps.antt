-- The cycles in which frames of a talker in step arrive at its edge bridge.
use Rattle.std.proofs.Common.{◌≡◌, ℕ, ◌+◌, ◌*◌, ◌/◌, ◌%◌, ◌<◌, ◌≤◌, ap, ◌∙◌, sym, arith, div-add-mod'}
use Rattle.std.proofs.Math.Nat.{add-mul-mod_self_right}
use Rattle.cqf_lists.proofs.Members.{contains_at, index_of_member}
use Rattle.cqf_units.proofs.Cycles.{cycle_is}
use Rattle.cqf_laws_timing.specs.Traffic.{Traffic}
use Rattle.cqf_access.specs.Access.{AccessLinkBoundsQueueing}
use Rattle.cqf_access.specs.Arriving.{AreWithin, at_edge, edge_offset}
use Rattle.cqf_access.specs.InStep.{EdgeComesInActiveCycles, EdgeKeepsStep, KeepsStep}
use Rattle.cqf_access.proofs.Arrivals.{shifted}

-- an instant of a block's interval is in the cycle, by each clock
pub cycle_of_block : (cycle_time sync offset block reading at : ℕ) (t : Traffic) → KeepsStep cycle_time sync offset t →
    offset + block * t.interval ≤ at → at ≤ offset + block * t.interval + t.jitter → AreWithin sync at reading →
    reading / cycle_time ≡ offset / cycle_time + block * (t.interval / cycle_time)
cycle_of_block cycle_time sync offset block reading at t step least most clocks =
    let begins : offset ≡ offset / cycle_time * cycle_time + offset % cycle_time = sym (div-add-mod' offset cycle_time) in
    let long : t.interval ≡ t.interval / cycle_time * cycle_time = omega (arith, div-add-mod' t.interval cycle_time, step.whole) in
    let following : block * t.interval ≡ block * (t.interval / cycle_time) * cycle_time = omega (arith, ap (λ n. block * n) long) in
    cycle_is cycle_time (offset / cycle_time + block * (t.interval / cycle_time)) reading
    (omega (arith, begins, following, least, clocks.no_later, step.early))
    (omega (arith, begins, following, most, clocks.no_sooner, step.late))

-- so is the block's beginning
pub cycle_of_beginning : (cycle_time sync offset block : ℕ) (t : Traffic) → KeepsStep cycle_time sync offset t →
    (offset + block * t.interval) / cycle_time ≡ offset / cycle_time + block * (t.interval / cycle_time)
cycle_of_beginning cycle_time sync offset block t step =
    cycle_of_block cycle_time sync offset block (offset + block * t.interval) (offset + block * t.interval) t step (omega arith) (omega arith)
    (record { no_later = omega arith; no_sooner = omega arith })

pub edge_keeps_step : AccessLinkBoundsQueueing → EdgeKeepsStep
edge_keeps_step waits link streams others delays time shortest offset cycle_time sync s x at reading sent bound c k least grid whole step clocks =
    let edge = shifted waits link streams others delays time shortest offset grid.block s x at sent bound c k least grid.least grid.most whole in
    let begin = edge_offset link delays shortest offset in
    let word = at_edge link delays time shortest s.promise in
    cycle_of_block cycle_time sync begin grid.block reading at word step edge.0 edge.1 clocks
    ∙ sym (cycle_of_beginning cycle_time sync begin grid.block word step)

-- if an interval is a multiple of `every` cycles, all blocks begin in cycles that are the same modulo `every`
active_cycle_of_block : (first block every cycle_time interval : ℕ) → 0 < cycle_time → interval % (every * cycle_time) ≡ 0 →
    (first + block * (interval / cycle_time)) % every ≡ first % every
active_cycle_of_block first block every cycle_time interval some whole =
    let times : ℕ = interval / (every * cycle_time) in
    let long : interval ≡ times * every * cycle_time = omega (arith, div-add-mod' interval (every * cycle_time), whole) in
    let cycles : interval / cycle_time ≡ times * every = cycle_is cycle_time (times * every) interval (omega (arith, long)) (omega (arith, long, some)) in
    let following : first + block * (interval / cycle_time) ≡ first + block * times * every = omega (arith, ap (λ n. block * n) cycles) in
    ap (λ cycle. cycle % every) following ∙ add-mul-mod_self_right first (block * times) every

pub edge_comes_in_active_cycles : AccessLinkBoundsQueueing → EdgeComesInActiveCycles
edge_comes_in_active_cycles waits link streams others delays time shortest offset cycle_time every sync s arrived a sent bound c least on are step whole k =
    let index = index_of_member arrived a k in
    let comes = are.each index.0 a index.1 in
    let there = contains_at s.crossings (are.index index.0) comes.crossing comes.there in
    let grid = on comes.crossing there in
    let edge = shifted waits link streams others delays time shortest offset grid.block s comes.crossing comes.at sent bound c there
    (least comes.crossing there) grid.least grid.most comes.whole in
    let begin = edge_offset link delays shortest offset in
    let word = at_edge link delays time shortest s.promise in
    ap (λ cycle. cycle % every) (cycle_of_block cycle_time sync begin grid.block a.at.0 comes.at word step edge.0 edge.1 comes.clocks)
    ∙ active_cycle_of_block (begin / cycle_time) grid.block every cycle_time s.promise.interval step.some whole
