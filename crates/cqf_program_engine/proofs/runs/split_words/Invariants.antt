-- The words so far are in the list.
use Rattle.std.proofs.Common.{◌≡◌}
use Rattle.cqf_program_engine.proofs.runs.split_words.Given as goal

abbrev pub invariant-loop-word : goal.invariant-loop-word
invariant-loop-word l = l.words.items ≡ l.yielded
