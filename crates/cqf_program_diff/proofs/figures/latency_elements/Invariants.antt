-- The elements so far.
use Rattle.std.proofs.Common.{◌≡◌, map, take}
use Rattle.cqf_program_diff.specs.Figures.{latency_element}
use Rattle.cqf_program_diff.proofs.figures.latency_elements.Given as goal

abbrev pub invariant-loop-latency : goal.invariant-loop-latency
invariant-loop-latency l = l.elements.items ≡ map latency_element (take l.latency-index l.latencies)
