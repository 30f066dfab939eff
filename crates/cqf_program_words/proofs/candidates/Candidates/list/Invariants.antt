-- The candidates so far, each a cycle time.
use Rattle.std.proofs.Common.{◌≡◌, ◌≤◌, ◌+◌, ◌*◌, ◌∷◌, [], All, length}
use Rattle.cqf_lists.specs.Lists.{each_below}
use Rattle.cqf_program_words.proofs.candidates.Candidates.list.Given as goal

abbrev pub invariant-loop-position : goal.invariant-loop-position
invariant-loop-position l = record {
  listed : l.times.items ≡ each_below (λ k. (l.self.first + k * l.self.step) ∷ []) l.position;
  so_many : length l.times.items ≡ l.position;
  each : All (λ time. (10000 ≤ time) × (time ≤ 10000000)) l.times.items;
}
