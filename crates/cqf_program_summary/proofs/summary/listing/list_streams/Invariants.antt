use Rattle.std.proofs.Common.{map, take}
use Rattle.cqf_admission.specs.Asking.{asked_paced}
use Rattle.cqf_program_summary.specs.Summary.Listing.{IsListing}
use Rattle.cqf_program_summary.proofs.summary.listing.list_streams.Given as goal

-- the streams of the requests so far are listed
abbrev pub invariant-loop-request : goal.invariant-loop-request
invariant-loop-request l = IsListing l.domain (map asked_paced (take l.request-index l.requests)) l.listing
