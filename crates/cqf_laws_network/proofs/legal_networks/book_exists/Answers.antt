use Rattle.std.proofs.Common.{refl}
use Rattle.cqf_laws_network.proofs.Books.{book_of}
use Rattle.cqf_laws_network.proofs.legal_networks.book_exists.Goals as goal

pub returns : goal.returns
returns c run lists cycles =
    let w = c.legal_network_exists.ensures run lists cycles in
    (book_of run cycles w.0, record { net = w.0; legal = w.1; are_starts = refl; are_background = refl; are_drops = refl })
