-- If none was found, the seats so far are borne out; otherwise those with smaller numbers are.
use Rattle.std.proofs.Common.{◌++◌, length, map, take}
use Rattle.cqf_admission.specs.Admission.{recorded_of}
use Rattle.cqf_desk.specs.Closing.{ComesToLeast}
use Rattle.cqf_desk.proofs.closing.first_against.Given as goal

abbrev pub invariant-loop-seat : goal.invariant-loop-seat
invariant-loop-seat l =
    ComesToLeast l.opening.domain (l.opening.entries ++ map recorded_of l.rest) (length l.opening.entries) (take l.seat-index l.seats) l.least
