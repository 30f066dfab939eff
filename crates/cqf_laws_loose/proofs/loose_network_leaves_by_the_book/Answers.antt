use Rattle.cqf_laws_loose.proofs.Background.{leaves_by_the_book}
use Rattle.cqf_laws_loose.proofs.loose_network_leaves_by_the_book.Goals as goal

pub returns : goal.returns
returns c = leaves_by_the_book c.loose_gates_mean_the_shift.ensures c.book_says_the_shift.ensures
