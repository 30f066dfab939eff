use Rattle.cqf_laws_relay.proofs.Traced.{backed_traces_are_the_books}
use Rattle.cqf_laws_relay.proofs.backed_traces_are_the_books.Goals as goal

pub returns : goal.returns
returns c = backed_traces_are_the_books
