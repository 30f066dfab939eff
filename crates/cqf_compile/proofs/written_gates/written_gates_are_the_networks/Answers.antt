-- The law of written gates.
use Rattle.cqf_compile.proofs.Written.{each_has_one, pass_the_same, that_way}
use Rattle.cqf_compile.proofs.written_gates.written_gates_are_the_networks.Goals as goal

pub returns-clause-ingresses : goal.returns-clause-ingresses
returns-clause-ingresses c = that_way

pub returns-clause-passes : goal.returns-clause-passes
returns-clause-passes c = pass_the_same c.spans_pass_the_same.ensures

pub returns-clause-each : goal.returns-clause-each
returns-clause-each c = each_has_one
