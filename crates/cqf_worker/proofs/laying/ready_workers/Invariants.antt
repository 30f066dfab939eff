use Rattle.std.proofs.Common.{◌≡◌, ◌≤◌, [], length, map}
use Rattle.std.specs.Prelude.{All}
use Rattle.cqf_worker.specs.Laying.{AreBare, HasCycles, traffic_of}
use Rattle.cqf_worker.specs.Wires.{pipe_of_tables, tables_pipe}
use Rattle.cqf_worker.proofs.laying.ready_workers.Given as goal

-- there is a worker for each bridge so far, and an end for its tables
abbrev pub invariant-loop-number : goal.invariant-loop-number
invariant-loop-number l = record {
  within : l.number ≤ length l.domain.bridges;
  count : length l.workers.items ≡ l.number;
  bare : AreBare (traffic_of l.domain l.offers) l.workers.items;
  cycles : All (HasCycles l.cycles) l.workers.items;
  pipes : map pipe_of_tables l.tables.items ≡ map tables_pipe l.workers.items;
  nothing_put : All (λ end. end.items ≡ []) l.tables.items;
}
