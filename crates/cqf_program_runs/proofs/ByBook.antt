-- The deliveries by the verdicts on the offers are those by the book.
use Rattle.std.proofs.Common.{◌≡◌, ◌∙◌, ◌∷◌, ◌<◌, [], ℕ, Bool, true, false, List, Option, Some, None, Contains, length}
use Rattle.std.proofs.Common.{ap, sym, subst, refl, arith, if◌then◌else◌, nat_lt}
use Rattle.std.specs.Prelude.{◌==◌}
use Rattle.std.proofs.lemmas.Bool.Decides.{nat_tests}
use Rattle.cqf_lists.proofs.Made.{flat_map_same}
use Rattle.cqf_lists.proofs.Members.{find_member, find_some}
use Rattle.cqf_model.specs.declared.frames.Dropped.{Dropped}
use Rattle.cqf_model.specs.declared.frames.Offered.{Offered}
use Rattle.cqf_model.specs.declared.frames.Reason.{Reason}
use Rattle.cqf_model.specs.declared.topology.Row.{Row}
use Rattle.cqf_model.specs.Book.{Contents}
use Rattle.cqf_model.specs.Run.{Run}
use Rattle.cqf_model.specs.Shift.{IsCovered, IsUncovered, offer_cycle}
use Rattle.cqf_model.specs.Policing.{DroppedFor, ExceedsGate, LacksRow, Queued, Verdict, numbered}
use Rattle.cqf_model.specs.Promise.{SaysTheShift, IsDecided}
use Rattle.cqf_topology.specs.PlannedText.{PlannedText}
use Rattle.cqf_laws_shift.proofs.Came.{one_number}
use Rattle.cqf_laws_shift.proofs.Decided.{covered_judged, uncovered_judged}
use Rattle.cqf_laws_coverage.specs.Counted.{AreDecided}
use Rattle.cqf_program_runs.specs.declared.deliveries.delivery.Passage.TheVariants as passage
use Rattle.cqf_program_runs.specs.declared.deliveries.delivery.Delivery.{Delivery}
use Rattle.cqf_program_runs.specs.Deliveries.ByVerdict.{deliveries_for, deliveries_of_all, deliveries_within}
use Rattle.cqf_program_runs.specs.Deliveries.{deadline_named, deliveries_by, deliveries_of, deliveries_of_offer}
use Rattle.cqf_program_runs.specs.Deliveries.{deliveries_to, deliveries_unless, delivery_of, drop_of, whole_on}

-- an offer isn't both covered and dropped, and has one reason
pub not_both : (run : Run) (x : Offered) (row : Row) (reason : Reason) → IsCovered run x row → IsUncovered run x reason → ⊥
not_both run x row reason covered uncovered =
    let both : Queued row ≡ DroppedFor reason = sym (covered_judged run x row covered) ∙ uncovered_judged run x reason uncovered in
    absurd (cc)

pub one_reason : (run : Run) (x : Offered) (a b : Reason) → IsUncovered run x a → IsUncovered run x b → a ≡ b
one_reason run x a b one two =
    let both : DroppedFor a ≡ DroppedFor b = sym (uncovered_judged run x a one) ∙ uncovered_judged run x b two in
    cc

module _ (run : Run) (book : Contents) (says : SaysTheShift run book) (x : Offered) (inside : Contains (numbered run.offers) x) where
  -- a drop with its number is its own
  pub drop_is : (dropped : Dropped) → drop_of book.drops x.frame ≡ Some dropped → IsUncovered run x dropped.reason
  drop_is dropped is =
      let member = find_member (λ (z : Dropped). z.frame == x.frame) book.drops dropped is in
      let of_it = says.only_drops dropped member.0 in
      let number : dropped.frame ≡ x.frame = (let test : (dropped.frame == x.frame) ≡ true = member.1 in grind (arith, nat_tests)) in
      let same : of_it.x ≡ x = one_number run.offers of_it.x x of_it.uncovered.offered inside (sym of_it.frame ∙ number) in
      subst (λ (z : Offered). IsUncovered run z dropped.reason) same of_it.uncovered

  -- a covered offer has no drop
  pub covered_no_drop : (row : Row) → IsCovered run x row → drop_of book.drops x.frame ≡ None
  covered_no_drop row covered = by (drop_of book.drops x.frame) refl
    where
      -- for any result of the search
      by : (found : Option Dropped) → drop_of book.drops x.frame ≡ found → found ≡ None
      by None is = refl
      by (Some dropped) is = absurd (not_both run x row dropped.reason covered (drop_is dropped is))

  -- an uncovered offer has a drop, with its reason
  pub uncovered_drop : (reason : Reason) → offer_cycle run.domain x < length run.tables → IsUncovered run x reason →
      (dropped : Dropped) × (drop_of book.drops x.frame ≡ Some dropped) × (dropped.reason ≡ reason)
  uncovered_drop reason within uncovered =
      let own : Dropped = record {
        cycle = record { 0 = offer_cycle run.domain x };
        bridge = x.offer.bridge;
        frame = x.frame;
        octets =
            x.offer.octets;
        reason = reason;
      } in
      let listed = says.each_drop own (record {
        x = x;
        uncovered = uncovered;
        within_run = within;
        cycle = refl;
        bridge = refl;
        frame = refl;
        octets = refl;
      }) in
      let itself : (x.frame == x.frame) ≡ true = grind (arith, nat_tests) in
      let found = find_some (λ (z : Dropped). z.frame == x.frame) book.drops own listed itself in
      (found.0, found.1, one_reason run x found.0.reason reason (drop_is found.0 found.1) uncovered)

-- so the deliveries of an offer are those by the verdict on it
module _ (run : Run) (streams : List PlannedText) (book : Contents) (says : SaysTheShift run book) (due : List ℕ → Option ℕ)
    (same_due : (name : List ℕ) → due name ≡ deadline_named streams name) where
  -- with its verdict
  unless_same : (x : Offered) → Contains (numbered run.offers) x → offer_cycle run.domain x < length run.tables → (v : Verdict) → IsDecided run x v →
      deliveries_for run.domain (record { due = due; whole = whole_on run.domain book.starts }) x v
      ≡ deliveries_unless run streams book x (drop_of book.drops x.frame)
  unless_same x inside within (Queued row) covered =
      ap (λ (deadline : Option ℕ). deliveries_to run.domain (whole_on run.domain book.starts x.frame) deadline x row) (same_due x.offer.stream)
      ∙ ap (deliveries_by run.domain (whole_on run.domain book.starts x.frame) (deadline_named streams x.offer.stream) x) (sym covered.named)
      ∙ ap (deliveries_unless run streams book x) (sym (covered_no_drop run book says x inside row covered))
  unless_same x inside within (DroppedFor reason) uncovered =
      let drop = uncovered_drop run book says x inside reason within uncovered in
      ap (λ (r : Reason). delivery_of run.domain x (passage.Dropped r) ∷ []) (sym drop.2)
      ∙ ap (deliveries_unless run streams book x) (sym drop.1)
  unless_same x inside within LacksRow never = absurd never
  unless_same x inside within ExceedsGate never = absurd never

  -- and those of all offers
  pub deliveries_judged : (verdict : Offered → Verdict) → AreDecided run verdict →
      deliveries_of_all run.domain (length run.tables) (record { due = due; whole = whole_on run.domain book.starts }) verdict (numbered run.offers)
      ≡ deliveries_of run streams book
  deliveries_judged verdict decided =
      flat_map_same (deliveries_within run.domain (length run.tables) (record { due = due; whole = whole_on run.domain book.starts }) verdict)
      (deliveries_of_offer run streams book) (numbered run.offers)
      (λ x inside. by x inside (nat_lt (offer_cycle run.domain x) (length run.tables)) refl)
    where
      -- whether its cycle is run
      by : (x : Offered) → Contains (numbered run.offers) x → (b : Bool) → nat_lt (offer_cycle run.domain x) (length run.tables) ≡ b →
          deliveries_within run.domain (length run.tables) (record { due = due; whole = whole_on run.domain book.starts }) verdict x
          ≡ deliveries_of_offer run streams book x
      by x inside true e =
          let within : offer_cycle run.domain x < length run.tables = grind (arith, nat_tests) in
          ap (λ (more : List Delivery). if nat_lt (offer_cycle run.domain x) (length run.tables) then more else [])
          (unless_same x inside within (verdict x) (decided x inside within))
      by x inside false e =
          ap (λ (b : Bool). if b then deliveries_for run.domain (record { due = due; whole = whole_on run.domain book.starts }) x (verdict x) else []) e
          ∙ sym (ap (λ (b : Bool). if b then deliveries_unless run streams book x (drop_of book.drops x.frame) else []) e)
