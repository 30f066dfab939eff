use Rattle.std.proofs.Common.{length, sym, true≢false, ◌∙◌}
use Rattle.cqf_desk.proofs.Against.{goes_after, is_front, is_shorter}
use Rattle.cqf_desk.proofs.following.entries_after.Goals as goal

pub returns-then-not-is_same : goal.returns-then-not-is_same
returns-then-not-is_same c = λ has.
    true≢false (sym (c.is_same.ensures.1 (c.domain.ensures ∙ has.domain ∙ sym c.domain-2.ensures)) ∙ c.if-not-is_same.true)

pub returns-then-history-start : goal.returns-then-history-start
returns-then-history-start c =
    is_shorter c.args.opening.now c.args.held.now c.history-start.result.now c.history-history.result.now c.history-start.ensures.entries
    c.history-history.ensures.entries c.if-history-start.true

pub returns-then-not-are_same_entries : goal.returns-then-not-are_same_entries
returns-then-not-are_same_entries c = λ has.
    true≢false (sym (c.are_same_entries.ensures.1 (is_front c.args.opening.now c.args.held.now c.history-start.result.now c.history-history.result.now
    c.split_at.result.0.now c.history-start.ensures.entries c.history-history.ensures.entries c.split_at.ensures.front has)) ∙ c.if-not-are_same_entries.true)

pub returns : goal.returns
returns c =
    goes_after c.args.opening.now c.args.held.now c.history-start.result.now c.history-history.result.now c.split_at.result.0.now c.split_at.result.1.now
    (length c.history-start.result.now) c.history-start.ensures.entries c.history-history.ensures.entries c.split_at.ensures.front c.split_at.ensures.back
    (c.are_same_entries.ensures.0 c.if-not-are_same_entries.false)
    (sym c.domain.ensures ∙ c.is_same.ensures.0 c.if-not-is_same.false ∙ c.domain-2.ensures)
