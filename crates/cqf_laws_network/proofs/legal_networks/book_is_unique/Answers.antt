use Rattle.std.proofs.Common.{◌∙◌, ap, sym}
use Rattle.cqf_laws_network.proofs.Books.{book_of, is_book_of}
use Rattle.cqf_laws_network.proofs.legal_networks.book_is_unique.Goals as goal

pub returns : goal.returns
returns c run lists cycles book other a b =
    is_book_of run lists cycles book a
    ∙ ap (book_of run cycles) (c.legal_network_is_unique.ensures run lists cycles a.net b.net a.legal b.legal)
    ∙ sym (is_book_of run lists cycles other b)
