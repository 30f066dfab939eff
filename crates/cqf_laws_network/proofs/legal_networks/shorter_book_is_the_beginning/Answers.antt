use Rattle.cqf_laws_network.proofs.Books.{book_beginning}
use Rattle.cqf_laws_network.proofs.legal_networks.shorter_book_is_the_beginning.Goals as goal

pub returns : goal.returns
returns c = book_beginning c.legal_part_is_legal.ensures.same_past
