use Rattle.std.proofs.Common.{subst, sym}
use Rattle.cqf_trace.specs.BridgeTraces.{AreBridgeTracesOf}
use Rattle.cqf_worker.specs.Conducting.{IsSettleFault}
use Rattle.cqf_worker.proofs.Preparing.{passed_on, reported_of_desk, reported_of_pipes, settled_so}
use Rattle.cqf_worker.proofs.conducting.settle.Goals as goal

-- the bridge traces are of the bridges
pub gather-requires : goal.gather-requires
gather-requires c = subst (AreBridgeTracesOf c.args.domain.now) (sym c.in_ok-bridge_traces.ensures.ok.own) c.requires.bridge_traces

-- pipes and desk are closed, and the traces gathered
pub returns-clause-ok : goal.returns-clause-ok
returns-clause-ok c =
    settled_so c.args.domain.now c.args.desk c.args.ended c.push.new.self.items c.in_ok-bridge_traces.bridge_traces.items
    (record { history = c.in_ok-history.history; traces = c.in_ok-traces.traces })
    c.in_ok-bridge_traces.ensures.ok.fed c.in_ok-bridge_traces.ensures.ok.given c.in_ok-push.ensures.items c.in_ok-bridge_traces.ensures.ok.own
    c.in_ok-history.ensures.ok c.in_ok-traces.ensures

-- or its pipes aren't
pub returns-in_err-bridge_traces-clause-err : goal.returns-in_err-bridge_traces-clause-err
returns-in_err-bridge_traces-clause-err c =
    passed_on c.from_residual.result c.in_err-bridge_traces.field-0.0 (IsSettleFault c.args.desk c.args.ended) c.from_residual.ensures.1
    (reported_of_pipes c.args.desk c.args.ended c.in_err-bridge_traces.field-0.0 c.in_err-bridge_traces.ensures.err)

-- or the desk isn't
pub returns-in_err-history-clause-err : goal.returns-in_err-history-clause-err
returns-in_err-history-clause-err c =
    passed_on c.from_residual-in_err-history.result c.in_err-history.field-0.0 (IsSettleFault c.args.desk c.args.ended)
    c.from_residual-in_err-history.ensures.1
    (reported_of_desk c.args.desk c.args.ended c.push.new.self.items c.in_err-history.field-0.0 c.in_ok-push.ensures.items c.in_err-history.ensures.err)
