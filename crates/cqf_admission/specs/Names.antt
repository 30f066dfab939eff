-- Requests, found by their names.
use Rattle.std.specs.Prelude.{ℕ, ◌≡◌, Bool, List, Option, position, string_bytes}
use Rattle.std.specs.Borrow.{Bor}
use Rattle.std.specs.BTreeMap.{BTreeMap, get_by}
use Rattle.std.specs.Cmp.Lexicographic.{slice_cmp}
use Rattle.std.specs.Ordering.{nat_cmp}
use Rattle.cqf_model.specs.Domain.{is_text}
use Rattle.cqf_topology.specs.declared.paced.PacedRequest.{PacedRequest}

-- whether a request has a name
abbrev pub has_name : List ℕ → PacedRequest → Bool
has_name name request = is_text (string_bytes request.name) name

-- the index of the first request with a name
abbrev pub index_named : List PacedRequest → List ℕ → Option ℕ
index_named requests name = position (has_name name) requests

-- the index stored under a name
abbrev pub index_under : BTreeMap (Bor (List ℕ)) ℕ → List ℕ → Option ℕ
index_under indices name = get_by (λ key. slice_cmp nat_cmp name key.now) indices

-- the index stored under each name is that of the first request with this name
abbrev pub LeadToFirst : (List ℕ → Option ℕ) → List PacedRequest → Type 0
LeadToFirst under requests = (name : List ℕ) → under name ≡ index_named requests name
