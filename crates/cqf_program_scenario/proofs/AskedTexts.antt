-- What the streams of a part request.
use Rattle.std.proofs.Common.{◌≡◌, List, [], ◌∷◌, map, ap, refl}
use Rattle.cqf_topology.specs.declared.paced.PacedRequest.{PacedRequest}
use Rattle.cqf_topology.specs.PacedText.{paced_text}
use Rattle.cqf_admission.specs.Asking.{asked_by, asked_paced}

-- the texts of these streams request what the streams do
pub asked_texts : (requests : List PacedRequest) → map asked_by (map paced_text requests) ≡ map asked_paced requests
asked_texts [] = refl
asked_texts (request ∷ requests) = ap (λ rest. asked_paced request ∷ rest) (asked_texts requests)
