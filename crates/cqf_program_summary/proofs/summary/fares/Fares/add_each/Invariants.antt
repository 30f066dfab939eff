-- The deliveries so far are added.
use Rattle.std.proofs.Common.{ℕ, ◌≡◌, ◌+◌, take}
use Rattle.cqf_program_summary.specs.Summary.Counting.{FareWithin, fare_with_each}
use Rattle.cqf_program_summary.proofs.summary.fares.Fares.add_each.Given as goal

abbrev pub invariant-loop-index : goal.invariant-loop-index
invariant-loop-index l = record {
  is : l.self ≡ fare_with_each (take l.index l.here) l.initial.self;
  more : (many : ℕ) → FareWithin many l.initial.self → FareWithin (many + l.index) l.self;
}
