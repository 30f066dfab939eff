use Rattle.std.proofs.Common.{arith, string_bytes}
use Rattle.std.proofs.lemmas.Grind.{common_steps}
use Rattle.cqf_program_words.proofs.Growing.{lengthens_more}
use Rattle.cqf_program_words.proofs.shown.show.Goals as goal

pub loop-escaped-preserved : goal.loop-escaped-preserved
loop-escaped-preserved c = (
  grind (arith, common_steps),
  tt,
  lengthens_more (string_bytes c.args.line.now) (string_bytes c.loop-escaped.line) (string_bytes c.push-in-loop-escaped.new.self) _ c.loop-escaped.invariant.2
      c.in_ok-push.ensures.bytes,
)
