use Rattle.cqf_port.specs.PortState.{rules_of}
use Rattle.cqf_program_plans.proofs.PortLemmas.{AreTaken-offerable, AreExpressible-started, IsStartsText-run}
use Rattle.cqf_program_plans.proofs.port.command.starts_ready.Goals as goal

pub with_arrivals-port-requires : goal.with_arrivals-port-requires
with_arrivals-port-requires c = AreTaken-offerable c.args.arrivals.items c.requires.offerable

pub invariant_of-result : goal.invariant_of-result
invariant_of-result c = AreExpressible-started c.run_to.new.self c.in_ok-run_to.ensures.facts

pub returns : goal.returns
returns c = IsStartsText-run (rules_of c.args.list c.args.rate) c.args.arrivals.items c.args.until c.args.rate c.with_arrivals-port.result c.run_to.new.self
    c.with_arrivals-port.ensures c.in_ok-run_to.ensures.ok (λ past. (c.in_ok-run_to.ensures.past past).1) c.in_ok-run_to.ensures.facts
    c.in_ok-run_to.ensures.only
