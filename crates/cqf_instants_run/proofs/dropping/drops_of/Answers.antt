use Rattle.std.proofs.Common.{◌≡◌, ◌∙◌, ℕ, ◌+◌, List, All, sym, ap, subst, length}
use Rattle.cqf_model.specs.declared.frames.Dropped.{Dropped}
use Rattle.cqf_book.specs.BookOrder.{IsDropBelow, in_book_order}
use Rattle.cqf_instants_run.proofs.ByIndex.{by_index, drops_below}
use Rattle.cqf_instants_run.proofs.Drops.{drops_by_edge_verdicts}
use Rattle.cqf_instants_run.proofs.dropping.drops_of.Goals as goal

pub returns : goal.returns
returns c =
    let d = c.args.domain.now in
    let offers = c.args.offers.now in
    let edge_verdicts = c.args.edge_verdicts.now in
    let bridges : ℕ = length d.bridges in
    let frames : ℕ = length offers + 1 in
    let same : c.in_ok-drops.drops.items ≡ by_index d.cycle_time c.args.cycles offers edge_verdicts (length offers) =
    c.in_ok-drops.ensures ∙ ap (λ (n : ℕ). by_index n c.args.cycles offers edge_verdicts (length offers)) c.cycle_time-cycle_time.ensures.value in
    drops_by_edge_verdicts c.offers_are_judged.ensures c.book_of_history_says_the_shift.ensures d offers c.args.cycles edge_verdicts c.sort_drops.new.drops.items
    c.cycle_time-cycle_time.ensures.accepted c.requires.offers c.requires.order
    (c.in_ok-sort_drops.ensures.ok c.args.cycles bridges frames
    (subst (λ (drops : List Dropped). All (IsDropBelow c.args.cycles bridges frames) drops) (sym same)
    (drops_below d c.args.cycles offers edge_verdicts c.requires.offers))
    ∙ ap (in_book_order c.args.cycles bridges frames) same)
