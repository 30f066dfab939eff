-- The hops so far are counted.
use Rattle.std.proofs.Common.{◌+◌, sum_by, take}
use Rattle.cqf_model.specs.declared.topology.Hop.{Hop}
use Rattle.cqf_laws_coverage.specs.Counted.{counts_frames, counts_in}
use Rattle.cqf_instants_run.specs.Columns.{AddsFrame}
use Rattle.cqf_instants_run.proofs.counted.add_hops.Given as goal

abbrev pub invariant-loop-hop : goal.invariant-loop-hop
invariant-loop-hop l =
    AddsFrame l.cycles l.initial.columns.items l.columns.items
    (λ link. sum_by (λ (hop : Hop). counts_frames link l.cycles hop.link (l.cycle.0 + hop.hop_number) l.octets) (take l.hop-index l.hops))
    (λ link cycle. sum_by (λ (hop : Hop). counts_in link cycle hop.link (l.cycle.0 + hop.hop_number) l.octets) (take l.hop-index l.hops))
