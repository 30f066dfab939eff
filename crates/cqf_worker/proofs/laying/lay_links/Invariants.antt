use Rattle.std.proofs.Common.{◌≡◌, map}
use Rattle.cqf_worker.specs.Laying.{LaysFirst, cycles_at}
use Rattle.cqf_worker.specs.Wires.{tables_pipe}
use Rattle.cqf_worker.proofs.laying.lay_links.Given as goal

-- pipes are laid on the links so far
abbrev pub invariant-loop-link : goal.invariant-loop-link
invariant-loop-link l = record {
  laid : LaysFirst l.domain l.link l.fn.workers.items l.workers.items;
  tables : map tables_pipe l.workers.items ≡ map tables_pipe l.fn.workers.items;
  cycles : map cycles_at l.workers.items ≡ map cycles_at l.fn.workers.items;
}
