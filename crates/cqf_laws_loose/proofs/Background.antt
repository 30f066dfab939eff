-- Background frames, delays and clocks change no cycle in which a stream's frame leaves.
use Rattle.std.proofs.Common.{ℕ, List, length}
use Rattle.cqf_model.specs.declared.frames.Background.{Background}
use Rattle.cqf_model.specs.Run.{Run}
use Rattle.cqf_model.specs.Shift.{InShift}
use Rattle.cqf_laws_shift.specs.Books.{BookSaysTheShift}
use Rattle.cqf_laws_shift.specs.Run.{with_background}
use Rattle.cqf_laws_loose.specs.LooseLaws.{LooseGatesMeanTheShift, LooseNetworkLeavesByTheBook, SlackChangesNoCycle}

-- the shift doesn't depend on background frames
pub shift_with : (run : Run) (background : List Background) (cycles frame link cycle : ℕ) → InShift run cycles frame link cycle →
    InShift (with_background run background) cycles frame link cycle
shift_with run background cycles frame link cycle s = record {
  x = s.x;
  row = s.row;
  hop_number = s.hop_number;
  covered = record {
    offered = s.covered.offered;
    named = s.covered.named;
    live = s.covered.live;
    first_bridge = s.covered.first_bridge;
    within = s.covered.within;
  };
  is_frame = s.is_frame;
  is_hop = s.is_hop;
  is_cycle = s.is_cycle;
  within_run = s.within_run;
}

pub shift_without : (run : Run) (background : List Background) (cycles frame link cycle : ℕ) → InShift (with_background run background) cycles frame link cycle →
    InShift run cycles frame link cycle
shift_without run background cycles frame link cycle s = record {
  x = s.x;
  row = s.row;
  hop_number = s.hop_number;
  covered = record {
    offered = s.covered.offered;
    named = s.covered.named;
    live = s.covered.live;
    first_bridge = s.covered.first_bridge;
    within = s.covered.within;
  };
  is_frame = s.is_frame;
  is_hop = s.is_hop;
  is_cycle = s.is_cycle;
  within_run = s.within_run;
}

-- the law
pub slack_changes_no_cycle : LooseGatesMeanTheShift → SlackChangesNoCycle
slack_changes_no_cycle means run background slack other net far heard distant one two frame link cycle =
    let first = means run slack net heard one in
    let second = means (with_background run background) other far distant two in (
      λ l. second.each frame link cycle (shift_with run background (length run.tables) frame link cycle (first.only frame link cycle l)),
      λ l. first.each frame link cycle (shift_without run background (length run.tables) frame link cycle (second.only frame link cycle l)),
    )

-- the law
pub leaves_by_the_book : LooseGatesMeanTheShift → BookSaysTheShift → LooseNetworkLeavesByTheBook
leaves_by_the_book means says run slack net heard book is is_book =
    let m = means run slack net heard is in
    let kept = (says run book is.accepted.accepted is.orderly is.offered is.background is_book).says in
    record {
      each = λ s c. m.each s.frame s.link s.cycle.0 (kept.only s c);
      only = λ frame link cycle l. kept.each frame link cycle (m.only frame link cycle l);
    }
