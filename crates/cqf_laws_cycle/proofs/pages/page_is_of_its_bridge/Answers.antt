use Rattle.cqf_laws_cycle.proofs.PageParts.{background_on_page, drops_on_page, sent_on_page}
use Rattle.cqf_laws_cycle.proofs.pages.page_is_of_its_bridge.Goals as goal

pub returns-clause-starts : goal.returns-clause-starts
returns-clause-starts c = sent_on_page

pub returns-clause-background : goal.returns-clause-background
returns-clause-background c = background_on_page

pub returns-clause-drops : goal.returns-clause-drops
returns-clause-drops c = drops_on_page
