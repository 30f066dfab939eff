-- The entries so far have been copied.
use Rattle.std.proofs.Common.{◌≡◌, take, map}
use Rattle.cqf_admission.specs.Admission.{recorded_of}
use Rattle.cqf_admission.proofs.entries.copied_entries.Given as goal

abbrev pub invariant-loop-entry : goal.invariant-loop-entry
invariant-loop-entry l = map recorded_of l.copies.items ≡ map recorded_of (take l.entry-index l.entries)
