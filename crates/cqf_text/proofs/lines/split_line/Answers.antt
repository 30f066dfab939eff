use Rattle.std.proofs.Common.{◌<◌, length, arith}
use Rattle.std.proofs.lemmas.Grind.{common_steps}
use Rattle.cqf_text.proofs.LineLemmas.{lines_of-first}
use Rattle.cqf_text.proofs.lines.split_line.Goals as goal

pub returns-clause-lines : goal.returns-clause-lines
returns-clause-lines c = let some : 0 < length c.args.text.now = grind (arith, common_steps) in let first = lines_of-first c.args.text.now some in
    grind (arith, common_steps, first)
