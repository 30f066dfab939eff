use Rattle.std.proofs.Common.{◌++◌, length, map}
use Rattle.cqf_admission.specs.Admission.{recorded_of}
use Rattle.cqf_desk.proofs.Leasts.{least_more}
use Rattle.cqf_desk.proofs.closing.first_against.Goals as goal

pub loop-seat-preserved : goal.loop-seat-preserved
loop-seat-preserved c =
    least_more c.args.opening.now.domain (c.args.opening.now.entries ++ map recorded_of c.args.rest.now) (length c.args.opening.now.entries) c.args.seats.now
    c.loop-seat.seat-index c.seat-item.result c.number.result c.loop-seat.least c.least_with-least.result c.in_ok-is_borne.is_borne
    c.loop-seat-test.true c.seat-item.is c.number.ensures
    c.least_with-least.ensures.borne c.least_with-least.ensures.against c.in_ok-is_borne.ensures
    c.loop-seat.invariant
