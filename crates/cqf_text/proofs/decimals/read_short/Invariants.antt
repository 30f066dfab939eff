use Rattle.cqf_text.proofs.DecimalLemmas.{AreRead}
use Rattle.cqf_text.proofs.decimals.read_short.Given as goal

-- the bytes so far are digits, and denote the number
abbrev pub invariant-loop-byte : goal.invariant-loop-byte
invariant-loop-byte l = AreRead l.bytes l.byte-index l.number
