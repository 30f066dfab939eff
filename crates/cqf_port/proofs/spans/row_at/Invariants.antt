use Rattle.std.proofs.Common.{ℕ, ◌≡◌, ◌<◌, ◌^◌, length, get_or}
use Rattle.cqf_port.specs.Spans.{IsSpan}
use Rattle.cqf_port.proofs.spans.row_at.Given as goal

-- the classes so far have their spans
abbrev pub invariant-loop-class : goal.invariant-loop-class
invariant-loop-class l = record {
  eight : length l.row ≡ 8;
  each : (k : ℕ) → k < l.class → IsSpan l.list k l.t (2 ^ 63) (get_or l.row k 0);
}
