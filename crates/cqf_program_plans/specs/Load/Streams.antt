-- What each stream takes of each link, and its text.
use Rattle.std.specs.Prelude.{ℕ, ◌-◌, ◌+◌, ◌==◌, ◌++◌, List, [], ◌∷◌, Option, None, codes, decimal, filter, flat_map, if◌then◌else◌, length, slice_get, slice_index_or}
use Rattle.std.specs.Option.{option_map_or}
use Rattle.cqf_lists.specs.Lists.{each_below}
use Rattle.cqf_units.specs.Timing.{cost_of}
use Rattle.cqf_model.specs.declared.topology.Row.{Row}
use Rattle.cqf_model.specs.Domain.{Domain, budget}
use Rattle.cqf_model.specs.Limits.{most_reserved}
use Rattle.cqf_model.specs.Table.{crosses}
use Rattle.cqf_topology.specs.NodeNames.{name_of_link}
use Rattle.cqf_edge.specs.declared.uses.Handed.{Handed}
use Rattle.cqf_report.specs.Records.{Fields}
use Rattle.cqf_report.specs.Written.{line_of_fields}
use Rattle.cqf_program_plans.specs.declared.load.access.AccessLoad.{AccessLoad}
use Rattle.cqf_program_plans.specs.declared.load.shares.AccessShare.{AccessShare}
use Rattle.cqf_program_plans.specs.Load.Access.{most_taken, name_of_access, taken_by}
use Rattle.cqf_program_plans.specs.Load.Text.{used_text}

-- items by a figure of at most `most`: those of the greatest figure first, and those of the same figure in their order. For each number up to
-- `most`, from 0 on, these are the items whose figure is less than `most` by that number
unfoldable pub greatest_first : {A : Type 0} → ℕ → (A → ℕ) → List A → List A
greatest_first most figure items = each_below (λ less. filter (λ x. most - figure x == less) items) (most + 1)

-- ---- access links

-- what the stream of a row takes of an access link, if it hands its frames to one
abbrev pub shares_of : ℕ → ℕ → List (Option Handed) → Row → List AccessShare
shares_of overhead cycle_time handed row =
    option_map_or (λ (one : Handed). record {
      index = one.index;
      stream = row.name;
      taken = taken_by overhead cycle_time one row.octets (row.pace.pause + 1);
    } ∷ []) (slice_index_or handed row.no None) []

-- what the streams of rows take of access links
abbrev pub access_shares : ℕ → ℕ → List (Option Handed) → List Row → List AccessShare
access_shares overhead cycle_time handed rows = flat_map (shares_of overhead cycle_time handed) rows

-- ---- what is written

-- a domain, the rows of its streams, its access links, and what streams take of these; rows and shares are in the order in which they are
-- written
pub record StreamLoads : Type 0 where
  pub domain : Domain
  pub rows : List Row
  pub access : List AccessLoad
  pub shares : List AccessShare

-- the header of the table
abbrev pub streams_header : Fields
streams_header = codes "link" ∷ codes "stream" ∷ codes "octets" ∷ codes "cost" ∷ codes "every" ∷ codes "share" ∷ []

-- the fields of a stream on a link: the names, what it reserves in each of its cycles, what that costs of the link, n if it reserves in one of
-- n cycles, and the share of the link's budget that it costs in such a cycle
abbrev pub stream_fields : Domain → ℕ → Row → Fields
stream_fields d l row =
    name_of_link d l ∷ row.name ∷ decimal row.octets ∷ decimal (cost_of d.overhead row.octets) ∷ decimal (row.pace.pause + 1)
    ∷ used_text (budget d l) (cost_of d.overhead row.octets) ∷ []

-- the line of a stream on a link, if its frames go by that link
abbrev pub stream_line_on : Domain → ℕ → Row → List ℕ
stream_line_on d l row = if crosses row l then line_of_fields (stream_fields d l row) else []

-- the lines of a link: one for each stream whose frames go by it
abbrev pub stream_lines_on : Domain → List Row → ℕ → List ℕ
stream_lines_on d rows l = flat_map (stream_line_on d l) rows

-- the fields of a stream on an access link, on which nothing is reserved: the names, the octets of a cycle that it takes, and their share of what
-- the link can send in a cycle
abbrev pub share_fields : AccessLoad → AccessShare → Fields
share_fields load share = name_of_access load ∷ share.stream ∷ [] ∷ decimal share.taken ∷ [] ∷ used_text load.budget share.taken ∷ []

-- the line of a stream on the access link at an index, if it hands its frames to that link
abbrev pub share_line_on : AccessLoad → ℕ → AccessShare → List ℕ
share_line_on load index share = if share.index == index then line_of_fields (share_fields load share) else []

-- the lines of the access link at an index
abbrev pub share_lines_at : List AccessLoad → List AccessShare → ℕ → List ℕ
share_lines_at access shares index = option_map_or (λ load. flat_map (share_line_on load index) shares) (slice_get access index) []

-- the header, the lines of each link by number, and the lines of each access link in their order
abbrev pub text_of_streams : StreamLoads → List ℕ
text_of_streams loads =
    line_of_fields streams_header
    ++ (each_below (stream_lines_on loads.domain loads.rows) (length loads.domain.links)
    ++ each_below (share_lines_at loads.access loads.shares) (length loads.access))
