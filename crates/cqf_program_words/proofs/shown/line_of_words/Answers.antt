use Rattle.std.proofs.Common.{string_bytes}
use Rattle.cqf_program_words.specs.Shown.{no_words}
use Rattle.cqf_program_words.proofs.Growing.{lengthens_more, lengthens_twice}
use Rattle.cqf_program_words.proofs.shown.line_of_words.Goals as goal

pub loop-word-preserved : goal.loop-word-preserved
loop-word-preserved c =
    let blank = lengthens_more no_words (string_bytes c.loop-word.line) (string_bytes c.push.new.self) _ c.loop-word.invariant c.in_ok-push.ensures.bytes in
    lengthens_twice no_words (string_bytes c.push.new.self) (string_bytes c.show_front.new.line) blank c.in_ok-show_front.ensures
