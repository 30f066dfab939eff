use Rattle.std.proofs.Common.{◌≡◌, ◌∙◌, ◌-◌, ◌<◌, ℕ, List, Ok, Err, ap, arith, length, map, subst, sym}
use Rattle.std.proofs.lemmas.List.{length-map}
use Rattle.std.specs.Prelude.{Result, is_ok}
use Rattle.cqf_model.specs.declared.history.Receipt.{Receipt}
use Rattle.cqf_model.specs.declared.history.Refused.{Refused}
use Rattle.cqf_model.specs.History.{Recorded, Withdraws}
use Rattle.cqf_model.specs.Domain.{Domain}
use Rattle.cqf_laws_history.specs.StateLaws.{with_entry}
use Rattle.cqf_admission.specs.declared.entries.Call.TheVariants.{Withdraw}
use Rattle.cqf_admission.specs.Admission.{Administration, Answers, EndsOne, recorded_of, reply_of}
use Rattle.cqf_admission.specs.State.{entries_with, of_entries}
use Rattle.cqf_admission.specs.Tabling.{AreTablesOf, IsNoted, Tables}
use Rattle.cqf_admission.proofs.Entered.{Entered, entered_after, entered_with, few_calls}
use Rattle.cqf_admission.proofs.Tabled.{tables_ended, tables_same}
use Rattle.cqf_admission.proofs.admission.Admission.withdraw.Goals as goal

-- tables are made from what is held after it
tabled : (d : Domain) (entries : List Recorded) (seat : ℕ) (name : List ℕ) (before after : Tables) (answer : Result Receipt Refused) →
    AreTablesOf d entries before → IsNoted before after (is_ok answer) →
    EndsOne (of_entries d entries) (of_entries d (entries_with entries seat (Withdraws name) answer)) answer →
    AreTablesOf d (entries_with entries seat (Withdraws name) answer) after
tabled d entries seat name before after (Ok receipt) are noted ends =
    tables_ended d entries (record { seat = seat; act = Withdraws name; reply = reply_of (Ok receipt) }) before after receipt.no receipt.effect.0 are noted ends
tabled d entries seat name before after (Err refused) are noted ends =
    tables_same d entries (record { seat = seat; act = Withdraws name; reply = reply_of (Err refused) }) before after are noted ends

module _ (c : goal.After-enter) where
  abbrev entries : List Recorded
  entries = map recorded_of c.self.inside.history.items

  few : length entries - c.self.inside.state.sealed < 100000
  few = omega (
    arith,
    few_calls c.is_full.result c.len.result c.self.inside.state.sealed c.if-is_full.false c.is_full.ensures,
    c.len.ensures,
    length-map c.self.inside.history.items recorded_of,
  )

  -- the call as it is entered
  after_is : map recorded_of c.enter.new.history.items ≡ entries_with entries c.args.seat (Withdraws c.args.name.now) c.in_ok-answer.answer
  after_is =
      entered_after c.self.inside.history.items c.reserve.new.self.items c.enter.new.history.items
      (record { seat = c.args.seat; call = Withdraw c.in_ok-asked.asked; reply = c.reply_of.result }) (Withdraws c.args.name.now) c.reserve.ensures.items
      c.enter.ensures (ap Withdraws c.in_ok-asked.ensures.ok)
      ∙ ap (with_entry entries c.args.seat (Withdraws c.args.name.now)) c.reply_of.ensures

  entered : Entered c.self.inside.domain entries (map recorded_of c.enter.new.history.items) c.withdraw.new.self c.args.seat (Withdraws c.args.name.now)
      c.in_ok-answer.answer
  entered =
      entered_with c.self.inside.domain entries (map recorded_of c.enter.new.history.items) c.withdraw.new.self c.args.seat (Withdraws c.args.name.now)
      c.in_ok-answer.answer after_is
      (c.in_ok-answer.ensures.withdraws c.self.inside.domain entries c.args.seat c.self.invariant.0 few).0

pub invariant_of-self-2 : goal.invariant_of-self-2
invariant_of-self-2 c = (
  (entered c).of,
  subst (λ (es : List Recorded). AreTablesOf c.self.inside.domain es c.note.new.self) (sym (after_is c))
      (tabled c.self.inside.domain (entries c) c.args.seat c.args.name.now c.self.inside.tabling c.note.new.self c.in_ok-answer.answer c.self.invariant.1
      (subst (IsNoted c.self.inside.tabling c.note.new.self) c.is_ok.ensures.value c.note.ensures)
      (c.in_ok-answer.ensures.withdraws c.self.inside.domain (entries c) c.args.seat c.self.invariant.0 (few c)).1),
)

pub returns-clause-answers : goal.returns-clause-answers
returns-clause-answers c =
    subst (λ (a : Administration). Answers a (of_entries c.self.inside.domain (map recorded_of c.enter.new.history.items)) c.args.seat
    (Withdraws c.args.name.now) c.in_ok-answer.answer) c.self.view_is (entered c).answers
