use Rattle.std.proofs.Common.{arith, rules}
use Rattle.cqf_text.proofs.DecimalLemmas.{read_few, read_more}
use Rattle.cqf_text.proofs.decimals.read_short.Goals as goal

-- one more digit
pub loop-byte-preserved : goal.loop-byte-preserved
loop-byte-preserved c =
    read_more c.args.bytes.now c.loop-byte.byte-index c.loop-byte.number _ c.loop-byte-test.true (search rules)
    c.loop-byte.invariant (omega (arith, c.from.ensures))

-- fewer than nineteen digits denote less than 10 ^ 18
pub overflow_mul-number : goal.overflow_mul-number
overflow_mul-number c =
    let small = read_few c.args.bytes.now c.loop-byte.byte-index c.loop-byte.number c.loop-byte-test.true c.requires.few c.loop-byte.invariant in
    record { fits = omega (arith, small) }

pub overflow_add-number : goal.overflow_add-number
overflow_add-number c =
    let small = read_few c.args.bytes.now c.loop-byte.byte-index c.loop-byte.number c.loop-byte-test.true c.requires.few c.loop-byte.invariant in
    record { fits = omega (arith, small, c.from.ensures, c.if-not-is_ascii_digit.ensures.bound) }
