-- Requests of good form, compared with the figures.
use Rattle.std.specs.Prelude.{ℕ, ◌≡◌, ◌-◌, ◌⊎◌, List, [], ◌∷◌, Bool, false, true, ◌&&◌, if◌then◌else◌, find, fold, is_some, max, nat_le, nat_lt, Option, None, Result, Ok, Err, slice_index_or}
use Rattle.std.specs.List.{list_any}
use Rattle.cqf_lists.specs.Lists.{each_below, or_else}
use Rattle.cqf_units.specs.Name.{is_name}
use Rattle.cqf_units.specs.declared.reservations.Cycle.{Cycle}
use Rattle.cqf_model.specs.declared.history.Refused.{Refused}
use Rattle.cqf_model.specs.declared.history.Refused.TheVariants.{AlreadyWithdrawn, BudgetShort, NameHeld, NotHeld, TooManyStreams}
use Rattle.cqf_model.specs.declared.topology.Hop.{Hop}
use Rattle.cqf_model.specs.declared.topology.Pace.{Pace}
use Rattle.cqf_model.specs.declared.topology.Row.{Row}
use Rattle.cqf_model.specs.Domain.{Domain, budget, is_text}
use Rattle.cqf_model.specs.History.{refused_at, refused_if}
use Rattle.cqf_model.specs.Limits.{most_every, streams_within}
use Rattle.cqf_model.specs.Table.{links_in, uses}
use Rattle.cqf_admission.specs.declared.state.GoodForm.{GoodForm}
use Rattle.cqf_admission.specs.Holdings.{IsFree, IsHolder, Standing, held_cost, held_count, held_most_at}

-- the row of a request of good form, with a number and the cycle from which it is live
abbrev pub row_by : GoodForm → ℕ → Cycle → Row
row_by form number effect = record {
  no = number;
  name = form.name.now;
  octets = form.octets;
  overhead = form.overhead;
  pace = form.pace;
  tree = record { items = form.tree.now };
  admitted = effect;
  withdrawn = None;
}

-- whether a stream is held under a name
abbrev pub is_taken : List Standing → List ℕ → Bool
is_taken stands name = list_any (λ (stand : Standing). stand.held && is_text stand.row.name name) stands

-- the most that the held streams cost on a link in a cycle in which frames of a stream with this tree and pace use it; what the link has
-- left besides this; and the same for the link of a hop
abbrev pub held_beside : List Standing → List Hop → Pace → ℕ → ℕ
held_beside stands tree pace l = fold max 0 (each_below (λ cycle. if uses tree pace l cycle then held_cost stands l cycle ∷ [] else []) most_every)

abbrev pub left_by : Domain → List Standing → List Hop → Pace → ℕ → ℕ
left_by d stands tree pace l = budget d l - held_beside stands tree pace l

abbrev pub left_at : Domain → List Standing → Pace → Hop → ℕ
left_at d stands pace hop = budget d hop.link - held_most_at stands hop.link pace hop.hop_number

-- the refusal that names the first of some links with less left than a cost; and the same for the links of the tree
abbrev pub short_among : Domain → List Standing → ℕ → Pace → List Hop → List ℕ → Option Refused
short_among d stands cost pace tree links =
    refused_at (λ l. BudgetShort l (left_by d stands tree pace l)) (find (λ l. nat_lt (left_by d stands tree pace l) cost) links)

abbrev pub stand_short : Domain → List Standing → ℕ → Pace → List Hop → Option Refused
stand_short d stands cost pace tree = short_among d stands cost pace tree (links_in tree)

-- why a stream with a name, a cost, a pace and a tree is refused because of what is held
abbrev pub stand_refusal : Domain → List Standing → List ℕ → ℕ → Pace → List Hop → Option Refused
stand_refusal d stands name cost pace tree =
    or_else (refused_if (is_taken stands name) NameHeld)
    (or_else (refused_if (nat_le (streams_within d.limits) (held_count stands)) TooManyStreams) (stand_short d stands cost pace tree))

-- the result of a search for the stream of a name that is held and not withdrawn: its number, or why there is none
abbrev pub IsOpenAt : List Standing → List ℕ → ℕ → Type 0
IsOpenAt stands name number = IsHolder stands name number × ((d : Standing) → (slice_index_or stands number d).row.withdrawn ≡ None)

abbrev pub IsEndedAt : List Standing → List ℕ → ℕ → Type 0
IsEndedAt stands name number = IsHolder stands name number × ((d : Standing) → is_some (slice_index_or stands number d).row.withdrawn ≡ true)

abbrev pub FindsOpen : List Standing → List ℕ → Result ℕ Refused → Type 0
FindsOpen stands name (Ok number) = IsOpenAt stands name number
FindsOpen stands name (Err refused) =
    ((refused ≡ NotHeld) × ((is_name name ≡ false) ⊎ IsFree stands name)) ⊎ ((refused ≡ AlreadyWithdrawn) × (number : ℕ) × IsEndedAt stands name number)
