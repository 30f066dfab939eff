use Rattle.std.proofs.Common.{◌≡◌, drop}
use Rattle.cqf_program_files.specs.Front.{has_fields}
use Rattle.cqf_program_files.proofs.front.has_fields.Given as goal

abbrev pub invariant-loop-octet : goal.invariant-loop-octet
invariant-loop-octet l = has_fields l.tabs (drop l.octet-index l.text) ≡ has_fields l.tabs l.text
