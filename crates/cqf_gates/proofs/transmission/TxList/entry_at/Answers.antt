-- The entry whose interval contains the instant was found.
use Rattle.std.proofs.Common.{◌≡◌, arith}
use Rattle.cqf_model.specs.GateList.{InForce}
use Rattle.cqf_gates.proofs.Rounds.{InForce-from_rest, InForce-later, states_at-in_force}
use Rattle.cqf_gates.proofs.transmission.TxList.entry_at.Goals as goal

pub returns-then-offset-interval-clause-in_force : goal.returns-then-offset-interval-clause-in_force
returns-then-offset-interval-clause-in_force c =
    let same : c.entries-entries.result.now ≡ c.args.self.now = c.entries-entries.ensures.value in
    let index = c.loop-index.index in
    rw (← same) (InForce-from_rest c.entries-entries.result.now c.args.t.0 index c.loop-index.offset c.loop-index-test.true
    c.loop-index.invariant (omega (arith, c.from-interval.ensures)))

pub returns-then-offset-interval-clause-steady : goal.returns-then-offset-interval-clause-steady
returns-then-offset-interval-clause-steady c = λ s from to.
    let same : c.entries-entries.result.now ≡ c.args.self.now = c.entries-entries.ensures.value in
    let index = c.loop-index.index in
    let offset = c.loop-index.offset in
    let found : InForce c.args.self.now c.args.t.0 index offset =
    rw (← same) (InForce-from_rest c.entries-entries.result.now c.args.t.0 index offset c.loop-index-test.true c.loop-index.invariant
    (omega (arith, c.from-interval.ensures))) in
    states_at-in_force c.args.self.now s index _ (InForce-later c.args.self.now c.args.t.0 index offset s found from to)
