use Rattle.cqf_laws_cycle.proofs.GateLists.{classes_take_turns}
use Rattle.cqf_laws_cycle.proofs.compiled.classes_alternate.Goals as goal

pub returns : goal.returns
returns c = classes_take_turns
