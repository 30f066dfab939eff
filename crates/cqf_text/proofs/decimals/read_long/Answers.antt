use Rattle.std.proofs.Common.{◌+◌, get_or, arith, rules}
use Rattle.std.proofs.lemmas.Int.Digits.{digits_value_more}
use Rattle.std.proofs.lemmas.Str.{digit_value_digit}
use Rattle.cqf_text.proofs.DecimalLemmas.{none_by_size, read_more}
use Rattle.cqf_text.proofs.decimals.read_long.Goals as goal

-- one more digit
pub loop-byte-preserved : goal.loop-byte-preserved
loop-byte-preserved c =
    read_more c.args.bytes.now c.loop-byte.byte-index c.loop-byte.number _ c.loop-byte-test.true (search rules)
    c.loop-byte.invariant (omega (arith, c.in-Some.ensures))

-- the number so far doesn't fit 64 bits
pub returns-in-None : goal.returns-in-None
returns-in-None c =
    let bytes = c.args.bytes.now in
    let index = c.loop-byte.byte-index in
    let worth = digit_value_digit (get_or bytes index 0) (search rules) in
    none_by_size c.args.least c.args.most (index + 1) bytes
    (omega (arith, digits_value_more 10 bytes index c.loop-byte-test.true, worth, c.loop-byte.invariant.value, c.in-None.ensures))
