-- What a ledger keeps besides its state.
use Rattle.std.specs.Prelude.{ℕ, ◌≡◌, ◌<◌, All, List, length, slice_index_or}
use Rattle.cqf_model.specs.Domain.{Domain}
use Rattle.cqf_model.specs.History.{Asked}
use Rattle.cqf_topology.specs.declared.paced.PacedRequest.{PacedRequest}
use Rattle.cqf_admission.specs.Orders.{StandsIn}
use Rattle.cqf_admission.specs.Asking.{asked_paced}
use Rattle.cqf_admission.specs.declared.forms.RequestForm.{RequestForm}
use Rattle.cqf_admission.specs.declared.forms.RequestForm.TheVariants.{Unseen}
use Rattle.cqf_admission.specs.declared.logs.Logged.{Logged}
use Rattle.cqf_admission.specs.Forms.{IsFormOf}

-- what is known of each request's form is true
pub record AreForms (d : Domain) (requests : List PacedRequest) (forms : List RequestForm) : Type 0 where
  pub as_many : length forms ≡ length requests
  pub each : (index : ℕ) (request : PacedRequest) → index < length requests →
      IsFormOf d (asked_paced (slice_index_or requests index request)) (slice_index_or forms index Unseen)

-- the request or word of each entry exists
abbrev pub AreThere : List Asked → List ℕ → List Logged → Type 0
AreThere requests script log = All (λ (logged : Logged). StandsIn requests script logged.what) log
