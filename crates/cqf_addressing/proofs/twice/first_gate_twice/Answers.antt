use Rattle.std.proofs.Common.{◌∙◌, ◌+◌, List, Bool, subst, sym}
use Rattle.cqf_addressing.proofs.Seen.{HasSeen, reported_none, reported_twice, seen_more, seen_none}
use Rattle.cqf_addressing.proofs.twice.first_gate_twice.Goals as goal

pub loop-index-init : goal.loop-index-init
loop-index-init c = seen_none c.args.addresses.now

pub returns-then-is_seen : goal.returns-then-is_seen
returns-then-is_seen c =
    sym (reported_twice c.args.addresses.now c.loop-index.index c.index-addresses-index.result c.loop-index-test.true c.index-addresses-index.is
    c.loop-index.seen c.loop-index.invariant c.gate_of-gate.result c.gate_of-gate.ensures.value c.gate_of-gate.ensures.range
    (sym c.is_seen.ensures ∙ c.if-is_seen.true))

pub loop-index-preserved : goal.loop-index-preserved
loop-index-preserved c =
    subst (λ (seen : List Bool). HasSeen c.args.addresses.now (c.loop-index.index + 1) seen) (sym c.note.ensures)
    (seen_more c.args.addresses.now c.loop-index.index c.index-addresses-index.result c.loop-index-test.true c.index-addresses-index.is
    c.loop-index.seen c.loop-index.invariant c.gate_of-gate.result c.gate_of-gate.ensures.value c.gate_of-gate.ensures.range
    (sym c.is_seen.ensures ∙ c.if-is_seen.false))

pub returns : goal.returns
returns c = sym (reported_none c.args.addresses.now c.loop-index.index c.loop-index.seen c.loop-index.invariant c.loop-index-test.false)
