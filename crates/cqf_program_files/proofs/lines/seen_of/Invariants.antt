use Rattle.std.proofs.Common.{◌≡◌, fold, take}
use Rattle.cqf_program_files.specs.Lines.{none_seen, with_octet}
use Rattle.cqf_program_files.proofs.lines.seen_of.Given as goal

abbrev pub invariant-loop-octet : goal.invariant-loop-octet
invariant-loop-octet l = l.seen ≡ fold with_octet none_seen (take l.octet-index l.line)
