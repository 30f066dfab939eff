-- The text of what links hold, those that begin at a bridge and then access links.
use Rattle.std.specs.Prelude.{ℕ, ◌++◌, List}
use Rattle.cqf_model.specs.declared.topology.Row.{Row}
use Rattle.cqf_model.specs.Domain.{Domain}
use Rattle.cqf_program_plans.specs.declared.load.access.AccessLoad.{AccessLoad}
use Rattle.cqf_program_plans.specs.Load.Access.{lines_of_access}
use Rattle.cqf_program_plans.specs.Load.Text.{load_text}

-- what is written: a domain, the rows of its streams, and what these take of access links
pub record ListedPlan : Type 0 where
  pub domain : Domain
  pub rows : List Row
  pub access : List AccessLoad

-- the text of an output
abbrev pub text_of_load : ListedPlan → List ℕ
text_of_load plan = load_text plan.domain plan.rows ++ lines_of_access plan.access
