-- What the streams of a plan take of access links by rate.
use Rattle.std.specs.Prelude.{ℕ, ◌+◌, ◌*◌, ◌/◌, ◌^◌, ◌≤◌, ◌++◌, List, [], ◌∷◌, Option, Some, None, codes, decimal, flat_map, map, max, slice_index_or, suc, zero}
use Rattle.std.specs.Int.{div_ceil}
use Rattle.std.specs.Option.{option_map_or}
use Rattle.cqf_units.specs.Timing.{cost_of, ticks_of_octet}
use Rattle.cqf_units.specs.declared.timing.Rate.{Rate}
use Rattle.cqf_traffic.specs.FlowsText.{FlowText}
use Rattle.cqf_traffic.specs.TrafficText.{TrafficText}
use Rattle.cqf_network.specs.declared.domain.TalkerLink.{TalkerLink}
use Rattle.cqf_network.specs.NetworkDomain.{NetworkDomain}
use Rattle.cqf_edge.specs.declared.uses.Handed.{Handed}
use Rattle.cqf_report.specs.Records.{Fields}
use Rattle.cqf_report.specs.Written.{line_of_fields}
use Rattle.cqf_program_plans.specs.declared.load.access.AccessLoad.{AccessLoad}
use Rattle.cqf_program_plans.specs.Load.Fitting.{megabits_of}
use Rattle.cqf_program_plans.specs.Load.Text.{left_text, used_text}

-- how many octets a link can send in a cycle
abbrev pub access_budget : ℕ → Rate → ℕ
access_budget cycle_time rate = 25 * cycle_time / ticks_of_octet rate

-- how many octets of a cycle a talker takes by what it promises: the mean of many cycles, rounded up, with preambles and gaps
abbrev pub promised_in : ℕ → TrafficText → ℕ
promised_in cycle_time t = div_ceil (t.frames * (t.size + 20) * cycle_time) t.interval

-- how many octets of a cycle a talker that promises nothing takes: the mean per cycle, rounded up, of what its reservation of this many
-- octets costs in one of `every` cycles
abbrev pub reserved_in : ℕ → ℕ → ℕ → ℕ
reserved_in overhead octets every = div_ceil (cost_of overhead octets) (max every 1)

-- how many octets of a cycle a stream takes that hands this over and reserves this many octets in one of `every` cycles
abbrev pub taken_by : ℕ → ℕ → Handed → ℕ → ℕ → ℕ
taken_by overhead cycle_time handed octets every = option_map_or (promised_in cycle_time) handed.traffic (reserved_in overhead octets every)

-- the most octets of a cycle that a stream takes of an access link
abbrev pub most_taken : ℕ
most_taken = 2 ^ 44

-- an access link before any stream takes a part of it
abbrev pub unloaded : NetworkDomain → ℕ → TalkerLink → AccessLoad
unloaded network cycle_time link = record {
  from = slice_index_or network.stations link.station [];
  to = slice_index_or network.bridges link.bridge [];
  rate = link.rate;
  budget = access_budget cycle_time link.rate;
  held = 0;
  streams = 0;
}

-- an access link, with what one stream more takes; and links, with what a stream takes of the one at an index, if there is one
abbrev pub loaded_by : ℕ → AccessLoad → AccessLoad
loaded_by taken load =
    record { from = load.from; to = load.to; rate = load.rate; budget = load.budget; held = load.held + taken; streams = load.streams + 1 }

abbrev pub added_load : List AccessLoad → ℕ → ℕ → List AccessLoad
added_load [] index taken = []
added_load (load ∷ loads) zero taken = loaded_by taken load ∷ loads
added_load (load ∷ loads) (suc index) taken = load ∷ added_load loads index taken

-- links, with what streams take, each of the link to which it is handed
abbrev pub loads_with : ℕ → ℕ → List AccessLoad → List (Option Handed) → List FlowText → List AccessLoad
loads_with overhead cycle_time loads [] flows = loads
loads_with overhead cycle_time loads (one ∷ more) [] = loads
loads_with overhead cycle_time loads (None ∷ more) (flow ∷ flows) = loads_with overhead cycle_time loads more flows
loads_with overhead cycle_time loads (Some handed ∷ more) (flow ∷ flows) =
    loads_with overhead cycle_time (added_load loads handed.index (taken_by overhead cycle_time handed flow.0.0.octets flow.0.0.every)) more flows

abbrev pub access_loads : NetworkDomain → ℕ → List (Option Handed) → List FlowText → List AccessLoad
access_loads network cycle_time handed flows = loads_with network.overhead cycle_time (map (unloaded network cycle_time) network.talkers) handed flows

-- what is held is at most what that many streams can take
abbrev pub TakesLittle : AccessLoad → Type 0
TakesLittle load = load.held ≤ load.streams * most_taken

-- what is held is at most what the link's streams can take, and there are at most `count` of them
pub record IsLoadedBy (count : ℕ) (load : AccessLoad) : Type 0 where
  pub little : TakesLittle load
  pub few : load.streams ≤ count

-- the name of an access link: the names of its ends
abbrev pub name_of_access : AccessLoad → List ℕ
name_of_access load = load.from ++ (codes ">" ++ load.to)

-- the line of an access link: nothing is reserved on it, so nothing fits
abbrev pub access_fields : AccessLoad → Fields
access_fields load =
    name_of_access load ∷ decimal (megabits_of load.rate) ∷ decimal load.budget ∷ decimal load.held ∷ left_text load.budget load.held
    ∷ [] ∷ decimal load.streams ∷ used_text load.budget load.held ∷ []

-- one line per access link, in their order
abbrev pub lines_of_access : List AccessLoad → List ℕ
lines_of_access loads = flat_map (λ (load : AccessLoad). line_of_fields (access_fields load)) loads
