-- In a loose network each frame is heard in the cycle in which it was sent.
use Rattle.std.proofs.Common.{ℕ, ◌<◌, ◌≤◌, arith, length}
use Rattle.cqf_model.specs.declared.frames.Sent.{Sent}
use Rattle.cqf_model.specs.Domain.{Domain}
use Rattle.cqf_model.specs.Loose.{ComesWithin, IsAcceptedWith, Slack}
use Rattle.cqf_model.specs.Network.{Network}
use Rattle.cqf_model.specs.Run.{Run}
use Rattle.cqf_model.specs.Policing.{Carried, whole_at}
use Rattle.cqf_units.proofs.Cycles.{cycles_ordered}
use Rattle.cqf_laws_shift.specs.Heard.{IsHeardAs, IsHeardRun}
use Rattle.cqf_laws_shift.proofs.CycleLaws.{CycleLaws}
use Rattle.cqf_laws_shift.proofs.MainLaws.{alone_means_the_shift}
use Rattle.cqf_laws_shift.proofs.RunsBeside.{run_as}
use Rattle.cqf_laws_loose.specs.LooseLaws.{LooseGatesMeanTheShift}
use Rattle.cqf_laws_loose.specs.LooseRuns.{IsLooseRun}

-- what arrives within the bounds is heard in its cycle, and in time
pub heard_as : (d : Domain) (slack : Slack) (l : ℕ) (sent heard : Sent) → IsAcceptedWith d slack → l < length d.links → ComesWithin d slack l sent heard →
    IsHeardAs d l sent heard
heard_as d slack l sent heard accepted is_link comes =
    let sooner : sent.start.0 ≤ whole_at d l heard = omega (arith, comes.shortest, accepted.least_long l is_link) in
    record {
      frame = comes.frame;
      stream = comes.stream;
      octets = comes.octets;
      no_sooner = cycles_ordered d.cycle_time sent.start.0 (whole_at d l heard) (omega (arith, accepted.accepted.cycle_least)) sooner;
      in_time = omega (arith, comes.most, accepted.most_short l is_link);
    }

-- so a loose run is one whose frames are heard
pub loose_is_heard : (run : Run) (slack : Slack) (net : Network) (heard : Carried) → IsLooseRun run slack net heard → IsHeardRun run net heard
loose_is_heard run slack net heard is = record {
  accepted = is.accepted.accepted;
  orderly = is.orderly;
  offered = is.offered;
  background = is.background;
  legal = is.loose.goes;
  meets = record {
    noted = is.loose.noted;
    are = is.loose.are;
    each = λ l sent is_link c. heard_as run.domain slack l sent (is.loose.noted l sent) is.accepted is_link (is.loose.each l sent is_link c);
  };
}

-- the law
pub loose_gates_mean_the_shift : CycleLaws → LooseGatesMeanTheShift
loose_gates_mean_the_shift laws run slack net heard is =
    alone_means_the_shift laws run net.carried (run_as laws run net heard (loose_is_heard run slack net heard is))
