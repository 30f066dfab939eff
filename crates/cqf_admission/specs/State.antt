-- The state that an administration keeps in place of its history.
use Rattle.std.specs.Prelude.{ℕ, ◌≡◌, ◌+◌, ◌-◌, ◌<◌, ◌≤◌, List, None, Result, filter, length, map}
use Rattle.cqf_model.specs.declared.history.Receipt.{Receipt}
use Rattle.cqf_model.specs.declared.history.Refused.{Refused}
use Rattle.cqf_model.specs.declared.history.Reply.TheVariants.{Sealed}
use Rattle.cqf_model.specs.declared.topology.Row.{Row}
use Rattle.cqf_model.specs.Domain.{Domain}
use Rattle.cqf_model.specs.History.{Act, Admits, Asked, Recorded, Seals, Withdraws, held_in, next_number, pace_of, seals, streams_of, tree_of}
use Rattle.cqf_model.specs.Limits.{most_calls, most_reserved}
use Rattle.cqf_model.specs.Table.{is_held}
use Rattle.cqf_laws_history.specs.StateLaws.{with_entry}
use Rattle.cqf_admission.specs.Admission.{Administration, Answers, EndsOne, HoldsOneMore, IsRunning, reply_of}
use Rattle.cqf_admission.specs.Judging.{form_refusal}
use Rattle.cqf_admission.specs.Holdings.{Standing}
use Rattle.cqf_admission.specs.Ring.{IsRing}
use Rattle.cqf_admission.specs.Streams.{stand_of}
use Rattle.cqf_admission.specs.declared.state.GoodForm.{GoodForm}

-- the accepted streams, for how many more there is room, the number of links, the ring of their ends, and the next cycle to be closed
pub record Figures : Type 0 where
  pub stands : List Standing
  pub room : ℕ
  pub links : ℕ
  pub slots : List (List ℕ)
  pub sealed : ℕ

-- the streams of a history, with whether each is held in the next cycle to be closed
abbrev pub stands_in : Domain → List Recorded → List Standing
stands_in d entries = map (stand_of (seals entries)) (streams_of d entries)

-- the figures are those of a legal history: its streams, the ring of their ends, and the number of its Seals
pub record AreOf (d : Domain) (entries : List Recorded) (stands : List Standing) (slots : List (List ℕ)) (sealed : ℕ) : Type 0 where
  pub running : IsRunning d entries (held_in d entries (seals entries)) (next_number d entries) sealed
  pub are_streams : stands ≡ stands_in d entries
  pub ring : IsRing stands slots

abbrev pub IsStateOf : Domain → List Recorded → Figures → Type 0
IsStateOf d entries figures = AreOf d entries figures.stands figures.slots figures.sealed × (figures.links ≡ length d.links)

-- the figures are those of some history of the domain; and of some history of some domain
pub record SomeHistory (d : Domain) (figures : Figures) : Type 0 where
  pub entries : List Recorded
  pub is : IsStateOf d entries figures

pub record SomeDomain (figures : Figures) : Type 0 where
  pub domain : Domain
  pub history : SomeHistory domain figures

-- a request of good form, and its parts as they are lent
pub record IsGoodFormOf (d : Domain) (asked : Asked) (form : GoodForm) : Type 0 where
  pub none : form_refusal d asked ≡ None
  pub name : form.name.now ≡ asked.name
  pub octets : form.octets ≡ asked.octets
  pub tree : form.tree.now ≡ tree_of d asked.paths
  pub most_octets : asked.octets ≤ most_reserved
  pub paced : form.pace ≡ pace_of asked
  pub overhead : form.overhead ≡ d.overhead

pub record SomeRequest (d : Domain) (form : GoodForm) : Type 0 where
  pub asked : Asked
  pub is : IsGoodFormOf d asked form

-- the administration with this domain and these entries
abbrev pub of_entries : Domain → List Recorded → Administration
of_entries d entries = record { domain = d; entries = entries }

-- a history's entries, followed by that of a call
abbrev pub entries_with : List Recorded → ℕ → Act → Result Receipt Refused → List Recorded
entries_with entries seat act result = with_entry entries seat act (reply_of result)

-- the effect of a call that is entered with this answer: the figures are those of the history with the call
pub record Leaves (d : Domain) (entries : List Recorded) (figures : Figures) (seat : ℕ) (act : Act) (result : Result Receipt Refused) : Type 0 where
  pub of : IsStateOf d (entries_with entries seat act result) figures
  pub answers : Answers (of_entries d entries) (of_entries d (entries_with entries seat act result)) seat act result

-- for each history of the domain that has room for a call, and each seat: this is the effect of a request of good form
abbrev pub AdmitsForm : Domain → GoodForm → Figures → Figures → Result Receipt Refused → Type 0
AdmitsForm d form before after result =
    (entries : List Recorded) (asked : Asked) (seat : ℕ) → IsStateOf d entries before → IsGoodFormOf d asked form →
    length entries - before.sealed < most_calls →
    Leaves d entries after seat (Admits asked) result
    × HoldsOneMore (of_entries d entries) (of_entries d (entries_with entries seat (Admits asked) result)) asked result

-- for each history that has room for a call, and each seat: this is the effect of a withdrawal of the name
abbrev pub WithdrawsName : List ℕ → Figures → Figures → Result Receipt Refused → Type 0
WithdrawsName name before after result =
    (d : Domain) (entries : List Recorded) (seat : ℕ) → IsStateOf d entries before → length entries - before.sealed < most_calls →
    Leaves d entries after seat (Withdraws name) result
    × EndsOne (of_entries d entries) (of_entries d (entries_with entries seat (Withdraws name) result)) result

-- the effect of a Seal: the streams whose last frame hasn't left by the next cycle are still held; and this is so for each history and seat
pub record LeavesSealed (d : Domain) (entries : List Recorded) (figures : Figures) (seat : ℕ) : Type 0 where
  pub of : IsStateOf d (with_entry entries seat Seals Sealed) figures
  pub held : held_in d (with_entry entries seat Seals Sealed) (seals (with_entry entries seat Seals Sealed))
      ≡ filter (λ (row : Row). is_held row (seals entries + 1)) (held_in d entries (seals entries))

abbrev pub ClosesNext : Figures → Figures → Type 0
ClosesNext before after = (d : Domain) (entries : List Recorded) (seat : ℕ) → IsStateOf d entries before → LeavesSealed d entries after seat

-- nothing changes but the room
pub record StaysSo (before after : Figures) : Type 0 where
  pub stands : after.stands ≡ before.stands
  pub links : after.links ≡ before.links
  pub slots : after.slots ≡ before.slots
  pub sealed : after.sealed ≡ before.sealed
