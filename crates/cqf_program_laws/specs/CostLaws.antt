-- What streams cost of a link repeats after 80 cycles.
use Rattle.std.specs.Prelude.{ℕ, ◌≡◌, ◌+◌, ◌≤◌, ◌<◌, List, [], Ok}
use Rattle.cqf_model.specs.declared.topology.Row.{Row}
use Rattle.cqf_model.specs.Domain.{Domain}
use Rattle.cqf_model.specs.History.{Asked, IsLegalHistory, Recorded, held_in}
use Rattle.cqf_model.specs.Limits.{most_every}
use Rattle.cqf_model.specs.Table.{link_cost}
use Rattle.cqf_admission.specs.Costs.{most_cost}
use Rattle.cqf_program_plans.specs.Load.Output.{listed_from}

-- what these rows cost of a link in each cycle: the same again 80 cycles later, never more than their greatest cost, which some cycle reaches
pub record AreRepeatedCosts (rows : List Row) (l : ℕ) : Type 0 where
  pub again : (cycle : ℕ) → link_cost rows l (cycle + most_every) ≡ link_cost rows l cycle
  pub most : (cycle : ℕ) → link_cost rows l cycle ≤ most_cost rows l
  pub reached : (cycle : ℕ) × (cycle < most_every) × (link_cost rows l cycle ≡ most_cost rows l)

-- so what `load` writes as held of a link is the greatest cost of all cycles
abbrev pub ListedCostsRepeat : Type 0
ListedCostsRepeat = (d : Domain) (streams : List Asked) (rows : List Row) (l : ℕ) → listed_from d [] streams ≡ Ok rows → AreRepeatedCosts rows l

-- the same holds of the rows that any legal history holds in a cycle
abbrev pub HeldCostsRepeat : Type 0
HeldCostsRepeat = (d : Domain) (entries : List Recorded) (cycle l : ℕ) → IsLegalHistory d entries → AreRepeatedCosts (held_in d entries cycle) l
