use Rattle.std.proofs.Common.{append-nil, sym}
use Rattle.cqf_program_tc.proofs.Naming.{word_more}
use Rattle.cqf_program_tc.proofs.variables.push_word.Goals as goal

pub loop-byte-preserved : goal.loop-byte-preserved
loop-byte-preserved c =
    word_more c.args.word.now.items c.loop-byte.word.items c.push.new.self.items c.args.name.now c.loop-byte.byte-index _ c.word_byte.result
    c.loop-byte-test.true c.loop-byte.invariant c.in_ok-push.ensures.items c.word_byte.ensures
