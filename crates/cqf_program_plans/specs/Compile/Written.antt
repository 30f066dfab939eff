-- The text of the output of the command `compile`.
use Rattle.std.specs.Prelude.{ℕ, List}
use Rattle.cqf_compile.specs.ConfigText.{config_text}
use Rattle.cqf_model.specs.declared.topology.Row.{Row}
use Rattle.cqf_model.specs.Domain.{Domain}

-- a domain, and the rows of its streams
pub record ConfiguredPlan : Type 0 where
  pub domain : Domain
  pub rows : List Row

-- the text of an output
abbrev pub text_of_config : ConfiguredPlan → List ℕ
text_of_config plan = config_text plan.domain plan.rows
