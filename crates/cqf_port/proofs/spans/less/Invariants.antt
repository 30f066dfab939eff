use Rattle.std.proofs.Common.{ℕ, ◌≡◌, ◌<◌, ◌-◌, length, get_or}
use Rattle.cqf_port.proofs.spans.less.Given as goal

-- the classes so far have what is left
abbrev pub invariant-loop-class : goal.invariant-loop-class
invariant-loop-class l = record {
  eight : length l.left ≡ 8;
  each : (k : ℕ) → k < l.class → get_or l.left k 0 ≡ get_or l.row k 0 - l.nanoseconds;
}
