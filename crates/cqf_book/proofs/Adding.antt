-- Adding the frames of a page's starts to the totals of all links.
use Rattle.std.proofs.Common.{ℕ, ◌*◌, ◌^◌, ◌≤◌, List, take}
use Rattle.cqf_model.specs.declared.frames.Started.{Started}
use Rattle.cqf_model.specs.OnLinks.{frames_on, octets_on}
use Rattle.cqf_book.specs.Totals.{AreAdded}

-- the starts below an index are counted, each of fewer than 2^32 octets
pub record AreCounted (starts : List Started) (frames octets frames_after octets_after : List ℕ) (count : ℕ) : Type 0 where
  pub added : AreAdded (take count starts) frames octets frames_after octets_after
  pub frames_within : (link : ℕ) → frames_on link (take count starts) ≤ count
  pub octets_within : (link : ℕ) → octets_on link (take count starts) ≤ count * 2 ^ 32
