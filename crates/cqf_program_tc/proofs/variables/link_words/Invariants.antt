-- The words of the links so far.
use Rattle.std.proofs.Common.{◌≡◌, map, take}
use Rattle.cqf_lists.specs.ByNumber.{lists_of}
use Rattle.cqf_program_tc.specs.Variables.{word_of_link}
use Rattle.cqf_program_tc.proofs.variables.link_words.Given as goal

abbrev pub invariant-loop-link : goal.invariant-loop-link
invariant-loop-link l = lists_of l.words.items ≡ map (word_of_link l.domain) (take l.link l.domain.links)
