-- What is known of a request that calls share.
use Rattle.std.specs.Arc.{arc_value}
use Rattle.std.specs.Prelude.{◌≡◌, ⊤, Option, None, Some}
use Rattle.cqf_topology.specs.declared.paced.PacedRequest.{PacedRequest}
use Rattle.cqf_admission.specs.Asking.{asked_paced}
use Rattle.cqf_admission.specs.Branches.{branches_of}
use Rattle.cqf_admission.specs.Spelled.{spelled}
use Rattle.cqf_admission.specs.Forms.{IsFormOf}
use Rattle.cqf_admission.specs.declared.shared.FoundForm.{FoundForm}

-- the request was checked for the domain, and this was found
pub record IsFound (request : PacedRequest) (found : FoundForm) : Type 0 where
  pub form : IsFormOf (arc_value found.domain) (asked_paced request) found.form
  pub text : found.text.items ≡ spelled (branches_of request.paths.items)

-- the same, if the request was checked for any domain
abbrev pub IsFoundOf : PacedRequest → Option FoundForm → Type 0
IsFoundOf request None = ⊤
IsFoundOf request (Some found) = IsFound request found
