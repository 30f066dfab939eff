use Rattle.cqf_book.proofs.Posting.{none_kept}
use Rattle.cqf_book.proofs.pages.Pages.new.Goals as goal

-- no page, and no total
pub invariant_of-result : goal.invariant_of-result
invariant_of-result c = none_kept c.args.bridges c.args.cycles c.in_ok-no_pages.field-0.items c.in_ok-new.field-0.frames.items c.in_ok-new.field-0.octets.items
    c.requires.few_bridges c.requires.few_cycles c.in_ok-no_pages.ensures c.in_ok-new.ensures.frames c.in_ok-new.ensures.octets
