use Rattle.cqf_bridge.proofs.Going.{page_of_book}
use Rattle.cqf_bridge.proofs.paces.pages_are_of_the_book.Goals as goal

pub returns : goal.returns
returns c t entries course cycles bridge cycle book page given are of_history inside within there =
    page_of_book t entries course given are c.new_bridge_follows.ensures.follows c.sending_follows.ensures c.receiving_follows.ensures c.page_follows.ensures
    c.tables_are_orderly.ensures.count cycles bridge cycle book page of_history inside within there
