-- Streams that were read: requests with their deadlines.
use Rattle.std.specs.Prelude.{ℕ, List, Option, None, slice_index_or}
use Rattle.std.specs.Option.{option_and_then}
use Rattle.cqf_topology.specs.declared.paced.PacedRequest.{PacedRequest}
use Rattle.cqf_admission.specs.Names.{index_named}

-- requests, and their deadlines by the same indexes
pub record Due : Type 0 where
  pub requests : List PacedRequest
  pub deadlines : List (Option ℕ)

-- the deadline of a name: that of the first request with this name
abbrev pub deadline_in : Due → List ℕ → Option ℕ
deadline_in due name = option_and_then (λ (index : ℕ). slice_index_or due.deadlines index None) (index_named due.requests name)
