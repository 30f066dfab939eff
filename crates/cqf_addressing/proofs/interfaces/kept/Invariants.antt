-- The bytes so far have been copied.
use Rattle.std.proofs.Common.{◌≡◌, take}
use Rattle.cqf_addressing.proofs.interfaces.kept.Given as goal

abbrev pub invariant-loop-byte : goal.invariant-loop-byte
invariant-loop-byte l = l.kept.items ≡ take l.byte-index l.bytes
