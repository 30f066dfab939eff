use Rattle.std.proofs.Common.{ap}
use Rattle.cqf_compile.specs.BridgeGates.{gate_at}
use Rattle.cqf_output.proofs.WriterLemmas.{Puts-as, Puts-then}
use Rattle.cqf_program_tc.specs.Words.{list_words}
use Rattle.cqf_program_tc.proofs.bridges.put_list_call.Goals as goal

pub returns : goal.returns
returns g c = Puts-then _ _ c.put.ensures
    (Puts-then _ _ c.put_gate_target.ensures
    (Puts-as (list_words c.gate_of.result) (list_words (gate_at c.args.plan.domain.now c.args.stream.row.now c.args.bridge)) (ap list_words c.gate_of.ensures)
    c.put_list_words.ensures))
