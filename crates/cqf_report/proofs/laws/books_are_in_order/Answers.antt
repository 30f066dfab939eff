use Rattle.cqf_report.proofs.LinkOrders.{book_in_order}
use Rattle.cqf_report.proofs.laws.books_are_in_order.Goals as goal

pub returns : goal.returns
returns c = book_in_order
