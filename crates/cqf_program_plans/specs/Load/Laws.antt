-- What fits is what is accepted.
use Rattle.std.specs.Prelude.{ℕ, ◌≡◌, ◌≤◌, ◌<◌, ◌↔◌, List, [], None, Ok, All, length}
use Rattle.cqf_units.specs.Timing.{cost_of}
use Rattle.cqf_model.specs.declared.topology.Row.{Row}
use Rattle.cqf_model.specs.Domain.{Domain, budget}
use Rattle.cqf_model.specs.History.{Asked, IsLegalHistory, Recorded, held_in, pace_of, refusal_of, seals, tables_of, tree_of}
use Rattle.cqf_model.specs.Paces.{each_cycle}
use Rattle.cqf_model.specs.Table.{link_cost, links_in, table_of}
use Rattle.cqf_laws_timing.specs.Streams.{AdmitsOnly}
use Rattle.cqf_program_plans.specs.Compile.Output.{admitted_from}
use Rattle.cqf_program_plans.specs.Load.Fitting.{fits_in, fits_on}
use Rattle.cqf_program_plans.specs.Load.Listing.{listing_refusal}
use Rattle.cqf_program_plans.specs.Load.Output.{listed_from}
use Rattle.cqf_model.specs.Limits.{least_reserved, most_overhead, most_reserved}

-- a reservation costs no more than what is left if and only if it is no greater than what fits
abbrev pub FitsIsGreatest : Type 0
FitsIsGreatest = (overhead left reserved : ℕ) → overhead ≤ most_overhead → least_reserved ≤ reserved → reserved ≤ most_reserved →
    cost_of overhead reserved ≤ left ↔ reserved ≤ fits_in overhead left

-- one more stream of each cycle, to which only a budget can object, is accepted if and only if it is no greater than what fits each of its
-- links
abbrev pub OneMoreFits : Type 0
OneMoreFits = (d : Domain) (rows : List Row) (asked : Asked) → d.overhead ≤ most_overhead → pace_of asked ≡ each_cycle → listing_refusal d rows asked ≡ None →
    (refusal_of d rows asked ≡ None) ↔ All (λ l. asked.octets ≤ fits_on d rows l) (links_in (tree_of d asked.paths))

-- listed streams are all admitted before cycle 0 if and only if no link holds more of them than its budget in any cycle; each of them is
-- then held in cycle 0, with these rows
abbrev pub AreAdmitted : Domain → List Asked → List Row → Type 0
AreAdmitted d streams rows = (entries : List Recorded) × (admitted_from d [] 1 streams ≡ Ok entries) × (held_in d entries 0 ≡ rows)

abbrev pub PlanFits : Type 0
PlanFits = (d : Domain) (streams : List Asked) (rows : List Row) → listed_from d [] streams ≡ Ok rows →
    AreAdmitted d streams rows ↔ ((l active_cycle : ℕ) → l < length d.links → link_cost rows l active_cycle ≤ budget d l)

-- streams that are all admitted are listed
abbrev pub AdmittedAreListed : Type 0
AdmittedAreListed = (d : Domain) (streams : List Asked) (entries : List Recorded) → admitted_from d [] 1 streams ≡ Ok entries →
    listed_from d [] streams ≡ Ok (held_in d entries 0)

-- what is written of a link is the most that all listed streams cost of it: no table of a history that admits only streams of this list
-- costs more of the link in any cycle, even if the plan exceeds the budget
abbrev pub NoneHoldsMore : Type 0
NoneHoldsMore = (d : Domain) (streams : List Asked) (rows : List Row) (entries : List Recorded) (cycles cycle link active_cycle : ℕ) →
    listed_from d [] streams ≡ Ok rows → IsLegalHistory d entries → cycles ≤ seals entries → AdmitsOnly streams entries →
    link_cost (table_of (tables_of d entries cycles) cycle) link active_cycle ≤ link_cost rows link active_cycle
