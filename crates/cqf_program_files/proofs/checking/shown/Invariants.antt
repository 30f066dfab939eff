use Rattle.std.proofs.Common.{◌≡◌, map, string_bytes, take}
use Rattle.cqf_program_files.specs.Files.{shown_octet}
use Rattle.cqf_program_files.proofs.checking.shown.Given as goal

abbrev pub invariant-loop-octet : goal.invariant-loop-octet
invariant-loop-octet l = string_bytes l.text ≡ map shown_octet (take l.octet-index l.octets)
