use Rattle.std.proofs.Common.{◌∙◌, ap}
use Rattle.cqf_program_tc.specs.Words.{gate_words}
use Rattle.cqf_program_tc.proofs.command.script_ready.Goals as goal

pub invariant_of-result : goal.invariant_of-result
invariant_of-result c =
    record {
      plan = c.requires;
      words = c.in_ok-gate_words.ensures.words ∙ ap gate_words c.cycle_time.ensures.value;
    }
