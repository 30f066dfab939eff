-- What is known of the form of requests.
use Rattle.std.specs.Prelude.{ℕ, ◌≡◌, ◌≤◌, ◌<◌, ⊤, List, Some, None, length, slice_index_or}
use Rattle.cqf_model.specs.declared.topology.Row.{Row}
use Rattle.cqf_model.specs.Domain.{Domain}
use Rattle.cqf_model.specs.History.{Asked}
use Rattle.cqf_laws_history.specs.StateLaws.{granted_row}
use Rattle.cqf_admission.specs.Judging.{form_refusal}
use Rattle.cqf_admission.specs.declared.forms.RequestForm.{RequestForm}
use Rattle.cqf_admission.specs.declared.forms.RequestForm.TheVariants.{Bad, Good, Unseen}
use Rattle.cqf_model.specs.Limits.{most_reserved}

-- a request of good form, with its row as if it had number 0 and were admitted in cycle 0
pub record IsRowOfGoodForm (d : Domain) (asked : Asked) (row : Row) : Type 0 where
  pub none : form_refusal d asked ≡ None
  pub most_octets : asked.octets ≤ most_reserved
  pub is : row ≡ granted_row d 0 0 asked

-- what is known of a request's form is true
abbrev pub IsFormOf : Domain → Asked → RequestForm → Type 0
IsFormOf d asked Unseen = ⊤
IsFormOf d asked (Bad refused) = form_refusal d asked ≡ Some refused
IsFormOf d asked (Good row) = IsRowOfGoodForm d asked row

-- nothing is known of any of the forms
abbrev pub AreUnseen : List RequestForm → Type 0
AreUnseen forms = (index : ℕ) → index < length forms → slice_index_or forms index Unseen ≡ Unseen

-- the form is known
abbrev pub IsSeen : RequestForm → Type 0
IsSeen Unseen = ⊥
IsSeen (Bad refused) = ⊤
IsSeen (Good row) = ⊤
