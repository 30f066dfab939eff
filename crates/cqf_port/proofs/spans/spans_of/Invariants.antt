use Rattle.std.proofs.Common.{ℕ, ◌≡◌, ◌≤◌, ◌<◌, ◌*◌, ◌^◌, [], take, length, get_or}
use Rattle.cqf_model.specs.GateList.{round_of}
use Rattle.cqf_port.specs.Spans.{AreSpansAt}
use Rattle.cqf_port.proofs.spans.spans_of.Given as goal

-- the entries so far have their spans
abbrev pub invariant-loop-index : goal.invariant-loop-index
invariant-loop-index l = record {
  sixteen : length l.spans ≡ 16;
  begun : l.begun ≡ round_of (take l.index l.entries);
  short : l.begun ≤ l.index * 2 ^ 32;
  rows : (k : ℕ) → k < l.index → AreSpansAt l.entries (round_of (take k l.entries)) (2 ^ 63) (get_or l.spans k []);
}
