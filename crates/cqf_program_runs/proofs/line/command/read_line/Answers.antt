use Rattle.std.proofs.lemmas.Result.{IfOk-weaker}
use Rattle.cqf_program_runs.proofs.line.command.read_line.Goals as goal

pub returns-clause-order : goal.returns-clause-order
returns-clause-order c =
    IfOk-weaker c.offers_part.result _ _ (λ offers read. c.offers_are_read_in_order.ensures c.args.domain.now c.in_ok-text.text.now offers.items read)
    c.offers_part.ensures.ok
