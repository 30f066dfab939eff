use Rattle.std.proofs.Common.{◌∙◌, ap}
use Rattle.cqf_model.specs.GateList.{port_list}
use Rattle.cqf_output.proofs.WriterLemmas.{Puts-as}
use Rattle.cqf_program_tc.specs.Text.{common_words}
use Rattle.cqf_program_tc.specs.Words.{tx_words}
use Rattle.cqf_program_tc.proofs.frame.put_common_words.Goals as goal

pub returns : goal.returns
returns g c =
    Puts-as _ (common_words c.args.domain.now)
    (ap tx_words (c.compiled_list-list.ensures ∙ (λ i. port_list (c.cycle_time.ensures.value i) (c.guard.ensures i)))) c.put_tx_words.ensures.words
