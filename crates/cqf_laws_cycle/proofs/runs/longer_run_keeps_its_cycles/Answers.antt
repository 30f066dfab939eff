use Rattle.cqf_laws_cycle.proofs.Steps.{cycles_kept}
use Rattle.cqf_laws_cycle.proofs.runs.longer_run_keeps_its_cycles.Goals as goal

pub returns : goal.returns
returns c =
    cycles_kept c.shorter_run_is_the_beginning.ensures.only c.the_past_alone_matters.ensures.bridges c.the_past_alone_matters.ensures.ports
