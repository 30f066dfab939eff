-- The entries so far are the same.
use Rattle.std.proofs.Common.{◌≡◌, map, take}
use Rattle.cqf_admission.specs.Admission.{recorded_of}
use Rattle.cqf_desk.proofs.same.are_same_entries.Given as goal

abbrev pub invariant-loop-index : goal.invariant-loop-index
invariant-loop-index l = map recorded_of (take l.index l.these) ≡ map recorded_of (take l.index l.those)
