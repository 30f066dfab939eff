use Rattle.cqf_laws_gates.proofs.Books.{own_gates_are_the_models}
use Rattle.cqf_laws_gates.proofs.own_gates_are_the_models.Goals as goal

pub returns : goal.returns
returns c = own_gates_are_the_models
