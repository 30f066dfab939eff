use Rattle.std.proofs.Common.{◌∙◌, ap}
use Rattle.cqf_program_tc.specs.Words.{gate_of_words}
use Rattle.cqf_program_tc.proofs.WordLemmas.{gate_again}
use Rattle.cqf_program_tc.proofs.words.write_gate_words.Goals as goal

pub returns-clause-again : goal.returns-clause-again
returns-clause-again c = λ octets.
    (ap (gate_of_words octets) (c.in_ok-from_slice.ensures.items ∙ c.as_bytes.ensures.value ∙ c.in_ok-words.ensures.words)
    ∙ gate_again c.args.cycle_time octets c.gate_words_of.ensures.range)
