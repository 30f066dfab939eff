-- The contracts of inner functions that write a plan.
use Rattle.std.specs.Prelude.{ℕ, ◌≡◌, List, IsSome, length, map}
use Rattle.cqf_program_placing.specs.Placing.{outcome_value}
use Rattle.cqf_program_placing.specs.Settled.{settled_value}
use Rattle.cqf_network_text.specs.declared.filling.FilledStream.{FilledStream}
use Rattle.cqf_network_text.specs.Networks.{IsFilledText, table_of}
use Rattle.cqf_program_planning.specs.declared.plan_command.PlanInput.{PlanInput}
use Rattle.cqf_program_planning.specs.declared.trying.Tried.{Tried}
use Rattle.cqf_program_planning.specs.Judging.{flows_placed}
use Rattle.cqf_program_planning.specs.PlanOutput.{AreChoicesOf, PlanSource}

-- what was read of a network that is to be planned
abbrev pub source_of : PlanInput → PlanSource
source_of input = record {
  domain = input.domain;
  streams = map settled_value input.streams.items;
  times = input.times.items;
  domain_text = input.domain_text.now;
  streams_text = input.streams_text.now;
}

-- what was read may be written with what is chosen: its texts are TOML, and it is known of each stream how long its frames take to its edge
-- bridge
pub record IsWritable (source : PlanSource) : Type 0 where
  pub domain : IsSome (table_of source.domain_text)
  pub streams : IsSome (table_of source.streams_text)
  pub times : length source.times ≡ length source.streams

-- the text is that of the file, with a cycle time on which its streams were placed, and with what was chosen for each
pub record IsTriedText (source : PlanSource) (tried : Tried) (text : List ℕ) : Type 0 where
  pub filled : List FilledStream
  pub chosen : let cycle_time = tried.domain.cycle_time in
      AreChoicesOf cycle_time source.streams (flows_placed cycle_time source.streams (map outcome_value tried.outcomes.items)) source.times filled
  pub written : IsFilledText source.domain_text source.streams_text tried.domain.cycle_time filled text
