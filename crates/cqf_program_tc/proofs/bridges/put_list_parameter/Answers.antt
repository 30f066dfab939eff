use Rattle.std.proofs.Common.{ap}
use Rattle.cqf_model.specs.Network.{compiled_lists}
use Rattle.cqf_output.proofs.WriterLemmas.{Puts-as, Puts-then}
use Rattle.cqf_program_tc.specs.Words.{tx_words}
use Rattle.cqf_program_tc.proofs.bridges.put_list_parameter.Goals as goal

pub returns : goal.returns
returns g c =
    Puts-then _ _ c.put.ensures
    (Puts-then _ _ (Puts-as _ (tx_words (compiled_lists c.args.domain.now c.args.link)) (ap tx_words c.port_list_of.ensures) c.put_tx_words.ensures.words)
    c.put-2.ensures)
