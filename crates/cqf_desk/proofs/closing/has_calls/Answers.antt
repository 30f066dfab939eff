use Rattle.cqf_desk.proofs.Calls.{none_lacks, same_there}
use Rattle.std.proofs.Common.{sym, ◌∙◌}
use Rattle.cqf_desk.proofs.closing.has_calls.Goals as goal

pub returns-then-next-calls : goal.returns-then-next-calls
returns-then-next-calls c = (
  λ none. absurd cc,
  λ same. absurd (none_lacks c.args.number c.args.calls.now c.args.rest.now c.loop-entry.next c.loop-entry.entry-index c.entry-item.result
      c.loop-entry.invariant
      c.loop-entry-test.true c.entry-item.is c.if-entry-number.true c.if-next-calls.true same),
)

pub returns-then-not-is_same_entry : goal.returns-then-not-is_same_entry
returns-then-not-is_same_entry c = (
  λ none. absurd cc,
  λ same. sym c.if-not-is_same_entry.true ∙ c.is_same_entry.ensures.1 (same_there c.args.number c.args.calls.now c.args.rest.now c.loop-entry.next
      c.loop-entry.entry-index c.entry-item.result c.index-calls-next.result c.loop-entry.invariant c.loop-entry-test.true c.entry-item.is
      c.if-entry-number.true c.if-next-calls.false c.index-calls-next.is same),
)
