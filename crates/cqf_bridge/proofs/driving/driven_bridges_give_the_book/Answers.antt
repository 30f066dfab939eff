use Rattle.cqf_bridge.proofs.Courses.{all_before, all_halfway, book_is_of_course, page_is_of_course}
use Rattle.cqf_bridge.proofs.driving.driven_bridges_give_the_book.Goals as goal

pub returns-clause-follow : goal.returns-clause-follow
returns-clause-follow c run cycles driven bridge cycle net course compiled few are inside upto =
    (all_before run cycles net course compiled c.sending_follows.ensures c.receiving_follows.ensures driven few are
    c.new_bridge_follows.ensures.follows cycle upto bridge inside).follows

pub returns-clause-send : goal.returns-clause-send
returns-clause-send c run cycles driven bridge cycle net course compiled few are inside within =
    all_halfway run cycles net course compiled c.sending_follows.ensures c.receiving_follows.ensures driven few are
    c.new_bridge_follows.ensures.follows cycle within bridge inside

pub returns-clause-pages : goal.returns-clause-pages
returns-clause-pages c run cycles bridge cycle course book accepted is are =
    page_is_of_course c.new_bridge_follows.ensures.follows c.sending_follows.ensures c.receiving_follows.ensures c.page_follows.ensures
    run cycles course book accepted is are bridge cycle

pub returns-clause-book : goal.returns-clause-book
returns-clause-book c run cycles course book accepted is are =
    book_is_of_course c.new_bridge_follows.ensures.follows c.sending_follows.ensures c.receiving_follows.ensures c.page_follows.ensures
    run cycles course book accepted is are c.book_is_its_pages.ensures.pages
