-- Each line adds its entry to those that were read.
use Rattle.std.proofs.Common.{◌≡◌, ◌<◌, ◌≤◌, ◌++◌, [], ◌∷◌, Some, length, arith}
use Rattle.cqf_text.specs.Lines.{lines_of}
use Rattle.cqf_gates.specs.GateListText.{entry_of_line}
use Rattle.cqf_gates.proofs.ReadLines.{read-one_more}
use Rattle.cqf_gates.proofs.text.read_tx.Goals as goal
use Rattle.cqf_gates.proofs.text.read_tx.Goals.{then-len-lt-TOO_MANY, else-len-lt-TOO_MANY}

pub loop-line-preserved : goal.loop-line-preserved
loop-line-preserved c =
    let kept = c.loop-line.kept.items in
    let after = c.if-len-lt-TOO_MANY.kept.items in
    let entry = c.in-Some-read_entry.entry in
    let first : lines_of c.loop-line.left.now ≡ c.in-Some.line.now ∷ lines_of c.in-Some.following.now =
    rw (c.in-Some.line-is, c.in-Some.following-is) c.in-Some.ensures.lines in
    let good : entry_of_line c.in-Some.line.now ≡ Some entry = rw c.in-Some.line-is (cc) in
    let room : length kept < 17 → after ≡ kept ++ entry ∷ [] =
    λ short. elim c.if-len-lt-TOO_MANY.branch [ then-len-lt-TOO_MANY w ↦ cc | else-len-lt-TOO_MANY w ↦ absurd (omega arith) ] in
    let full : 17 ≤ length kept → after ≡ kept = λ long. elim c.if-len-lt-TOO_MANY.branch [
      | then-len-lt-TOO_MANY w ↦ absurd (omega arith)
      | else-len-lt-TOO_MANY w ↦ cc
    ] in
    record {
      so_far = read-one_more c.args.text.now kept after c.loop-line.number c.loop-line.left.now c.in-Some.line.now c.in-Some.following.now entry
          c.loop-line.invariant.so_far first good room full;
      in_text = omega (arith, c.in-Some.ensures.shorter);
    }
