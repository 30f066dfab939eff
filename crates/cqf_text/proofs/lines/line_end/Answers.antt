use Rattle.std.proofs.Common.{length, arith}
use Rattle.cqf_text.proofs.LineLemmas.{first_feed}
use Rattle.cqf_text.proofs.lines.line_end.Goals as goal

pub returns-in-None-clause-end : goal.returns-in-None-clause-end
returns-in-None-clause-end c =
    let text = c.args.text.now in
    first_feed text (length text) (omega arith) (λ k below. c.in-None.ensures k (omega arith) below) (λ below. absurd (omega (arith, below)))

pub returns-in-Some-clause-end : goal.returns-in-Some-clause-end
returns-in-Some-clause-end c =
    first_feed c.args.text.now c.in-Some.end (omega (arith, c.in-Some.ensures.0.high))
    (λ k below. c.in-Some.ensures.0.before k (omega arith) below) (λ below. c.in-Some.ensures.1)

pub returns-in-Some-clause-inside : goal.returns-in-Some-clause-inside
returns-in-Some-clause-inside c = omega (arith, c.in-Some.ensures.0.high)
