use Rattle.cqf_bridge.proofs.OwnPages.{page_is_given}
use Rattle.cqf_bridge.proofs.cycles.page_follows.Goals as goal

pub returns : goal.returns
returns c =
    page_is_given c.legal_network_is_unique.ensures c.page_is_of_its_bridge.ensures.starts c.page_is_of_its_bridge.ensures.background
    c.page_is_of_its_bridge.ensures.drops c.drops_are_of_the_cycle.ensures.among
