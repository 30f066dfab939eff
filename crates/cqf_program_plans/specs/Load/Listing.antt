-- Streams that are listed together, and what is kept of them.
use Rattle.std.specs.Prelude.{ℕ, ◌≡◌, ◌*◌, ◌≤◌, ◌<◌, List, false, Option, Some, None, Result, Ok, Err, length, map, nat_le, slice_index_or}
use Rattle.std.specs.List.{list_any}
use Rattle.cqf_lists.specs.Lists.{or_else}
use Rattle.cqf_model.specs.declared.history.Refused.{Refused}
use Rattle.cqf_model.specs.declared.history.Refused.TheVariants.{NameHeld, TooManyStreams}
use Rattle.cqf_model.specs.declared.topology.Row.{Row}
use Rattle.cqf_model.specs.Domain.{Domain, is_text}
use Rattle.cqf_model.specs.History.{Asked, pace_of, refused_if}
use Rattle.cqf_laws_history.specs.StateLaws.{granted_row}
use Rattle.cqf_admission.specs.declared.judged.JudgedRequest.{JudgedRequest}
use Rattle.cqf_admission.specs.Judging.{form_refusal, row_by}
use Rattle.cqf_program_plans.specs.Load.Fitting.{streams_on}
use Rattle.cqf_model.specs.Limits.{most_links, most_streams, streams_within}
use Rattle.cqf_model.specs.Table.{link_cost}
use Rattle.cqf_admission.specs.ActiveCycles.{IsOfGoodPace, SumsByCycle, sum_on}
use Rattle.cqf_admission.specs.Rows.{IsCountable}

-- why a stream isn't listed beside others: the reason for which it would be refused beside them if each link had room
abbrev pub listing_refusal : Domain → List Row → Asked → Option Refused
listing_refusal d rows asked =
    or_else (form_refusal d asked)
    (or_else (refused_if (list_any (λ (row : Row). is_text row.name asked.name) rows) NameHeld)
    (refused_if (nat_le (streams_within d.limits) (length rows)) TooManyStreams))

-- the row of a stream that is listed after others
abbrev pub listed_row : Domain → List Row → Asked → Row
listed_row d rows asked = granted_row d (length rows) 0 asked

-- what is kept of the rows: their names, and for each link what they cost of it in each cycle, and how many of them use it
pub record IsListing (names : List (List ℕ)) (rows : List Row) (held : SumsByCycle) (crossing : List ℕ) : Type 0 where
  pub are_names : names ≡ map (λ (row : Row). row.name) rows
  pub few : length rows ≤ most_streams
  pub costs : held.links ≡ most_links
  pub counts : length crossing ≡ most_links
  pub cost : (l cycle : ℕ) → l < most_links → sum_on held l cycle ≡ link_cost rows l cycle
  pub bounded : (l cycle : ℕ) → l < most_links → sum_on held l cycle ≤ length rows * 2000000
  pub count : (l : ℕ) → l < most_links → slice_index_or crossing l 0 ≡ streams_on rows l
  pub counted : (l : ℕ) → l < most_links → slice_index_or crossing l 0 ≤ length rows

-- a request that is listed after these rows, and its row
pub record IsListed (d : Domain) (rows : List Row) (asked : Asked) (row : Row) : Type 0 where
  pub none : listing_refusal d rows asked ≡ None
  pub is : row ≡ listed_row d rows asked
  pub paced : row.pace ≡ pace_of asked
  pub good : IsOfGoodPace row
  pub countable : IsCountable (length d.links) row
  pub few : length rows < most_streams
  pub free : list_any (λ (other : Row). is_text other.name row.name) rows ≡ false

-- the result of judging a request is the judged request from which its row is made, or the first reason why it isn't listed; the result of
-- looking at it is that row, or the same reason
abbrev pub Weighs : Domain → List Row → Asked → Result JudgedRequest Refused → Type 0
Weighs d rows asked (Ok judged) = IsListed d rows asked (row_by judged asked.octets (length rows) (record { 0 = 0 }))
Weighs d rows asked (Err refused) = listing_refusal d rows asked ≡ Some refused

abbrev pub Lists : Domain → List Row → Asked → Result Row Refused → Type 0
Lists d rows asked (Ok row) = IsListed d rows asked row
Lists d rows asked (Err refused) = listing_refusal d rows asked ≡ Some refused
