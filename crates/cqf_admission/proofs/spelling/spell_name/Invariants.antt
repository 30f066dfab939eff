-- The octets so far are spelled.
use Rattle.std.proofs.Common.{◌≡◌, ◌++◌, take}
use Rattle.std.specs.List.{flat_map}
use Rattle.cqf_admission.specs.Spelled.{spelled_octet}
use Rattle.cqf_admission.proofs.spelling.spell_name.Given as goal

abbrev pub invariant-loop-octet : goal.invariant-loop-octet
invariant-loop-octet l = l.text.items ≡ l.fn.text.items ++ flat_map spelled_octet (take l.octet-index l.name)
