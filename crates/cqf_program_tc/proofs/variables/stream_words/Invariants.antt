-- The words of the streams so far.
use Rattle.std.proofs.Common.{◌≡◌, map, take}
use Rattle.cqf_lists.specs.ByNumber.{lists_of}
use Rattle.cqf_program_tc.specs.Variables.{word_of_stream}
use Rattle.cqf_program_tc.proofs.variables.stream_words.Given as goal

abbrev pub invariant-loop-index : goal.invariant-loop-index
invariant-loop-index l = lists_of l.words.items ≡ map word_of_stream (take l.index l.rows)
