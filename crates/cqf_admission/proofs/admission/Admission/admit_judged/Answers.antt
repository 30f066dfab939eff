-- A judged request is answered by its form and the state, and its entry is the next one.
use Rattle.std.proofs.Common.{◌≡◌, ◌∙◌, ◌-◌, ◌<◌, ℕ, List, Option, None, Some, Result, Ok, Err, ap, arith, length, map, refl, subst, subst₂, sym}
use Rattle.std.specs.Prelude.{is_ok}
use Rattle.cqf_model.specs.declared.history.Receipt.{Receipt}
use Rattle.cqf_model.specs.declared.history.Refused.{Refused}
use Rattle.cqf_model.specs.declared.history.Reply.{Reply}
use Rattle.cqf_model.specs.declared.history.Reply.TheVariants.{Accepted, Sealed, Refused as RefusedFor}
use Rattle.cqf_model.specs.Domain.{Domain}
use Rattle.cqf_model.specs.History.{Act, Admits, Asked, Recorded, admit_reply, held_in, next_number, refusal_of, seals}
use Rattle.cqf_laws_history.specs.StateLaws.{granted_row, with_entry}
use Rattle.cqf_admission.specs.declared.admission.Admission.TheInside.{Inside}
use Rattle.cqf_admission.specs.Admission.{Administration, Answers, HoldsOneMore, act_of, recorded_of, reply_of}
use Rattle.cqf_admission.specs.Calling.{IsJudgedCall}
use Rattle.cqf_admission.specs.Judging.{Judges}
use Rattle.cqf_admission.specs.State.{Figures, IsStateOf, Leaves, entries_with, of_entries}
use Rattle.cqf_admission.specs.Tabling.{AreTablesOf, IsNoted, Tables}
use Rattle.cqf_admission.proofs.Entered.{Entered, entered_after, entered_with, form_refused, judged_form}
use Rattle.cqf_admission.proofs.Tabled.{tables_more, tables_same}
use Rattle.cqf_admission.proofs.admission.Admission.admit_judged.Goals as goal
use Rattle.cqf_admission.proofs.admission.Admission.admit_judged.Goals.{in-Ok+in_ok-answer-in-Ok, in-Err}

-- a receipt has the number of the next stream
number_is : (next effect : ℕ) (refusal : Option Refused) (receipt : Receipt) → Accepted receipt ≡ admit_reply next effect refusal → receipt.no ≡ next
number_is next effect None receipt is = ap number is
  where
    number : Reply → ℕ
    number (Accepted other) = other.no
    number (RefusedFor refused) = next
    number Sealed = next
number_is next effect (Some refused) receipt is = absurd cc

-- tables are made from what is held after it
tabled : (d : Domain) (entries : List Recorded) (seat : ℕ) (asked : Asked) (before after : Tables) (answer : Result Receipt Refused) →
    AreTablesOf d entries before → IsNoted before after (is_ok answer) →
    Answers (of_entries d entries) (of_entries d (entries_with entries seat (Admits asked) answer)) seat (Admits asked) answer →
    HoldsOneMore (of_entries d entries) (of_entries d (entries_with entries seat (Admits asked) answer)) asked answer →
    AreTablesOf d (entries_with entries seat (Admits asked) answer) after
tabled d entries seat asked before after (Ok receipt) are noted answers held =
    let is : receipt.no ≡ next_number d entries =
    number_is (next_number d entries) (seals entries) (refusal_of d (held_in d entries (seals entries)) asked) receipt (answers.due refl) in
    tables_more d entries (record { seat = seat; act = Admits asked; reply = reply_of (Ok receipt) }) before after
    (granted_row d receipt.no receipt.effect.0 asked) are noted held (omega (arith, is))
tabled d entries seat asked before after (Err refused) are noted answers held =
    tables_same d entries (record { seat = seat; act = Admits asked; reply = reply_of (Err refused) }) before after are noted held

pub admit-requires-clause-request : goal.admit-requires-clause-request
admit-requires-clause-request c =
    let of : IsJudgedCall c.self.inside.domain c.args.call c.args.octets c.args.judged =
    subst (λ (a : Administration). IsJudgedCall a.domain c.args.call c.args.octets c.args.judged) (sym c.self.view_is) c.requires.judged in
    record {
      asked = of.asked;
      is = judged_form c.self.inside.domain of.asked c.in-Ok.judged c.of_judged-form.result
          (subst (Judges c.self.inside.domain of.asked) c.in-Ok.is of.judges) c.of_judged-form.ensures.name (c.of_judged-form.ensures.octets ∙ of.octets_asked)
          c.of_judged-form.ensures.overhead c.of_judged-form.ensures.pace c.of_judged-form.ensures.tree;
    }

-- what an admission controller has besides its state and its history
record Beside : Type 0 where
  domain : Domain
  tabling : Tables

abbrev beside : Inside → Beside
beside i = record { domain = i.domain; tabling = i.tabling }

-- a call that enters the history
module _ (c : goal.After-enter) where
  abbrev d : Domain
  d = c.self.inside.domain

  abbrev entries : List Recorded
  entries = map recorded_of c.self.inside.history.items

  of : IsJudgedCall d c.args.call c.args.octets c.args.judged
  of = subst (λ (a : Administration). IsJudgedCall a.domain c.args.call c.args.octets c.args.judged) (sym c.self.view_is) c.requires.judged

  asked : Asked
  asked = of.asked

  few : length entries - c.self.inside.state.sealed < 100000
  few =
      subst (λ (sealed : ℕ). length entries - sealed < 100000) (sym c.self.invariant.0.0.running.counted)
      (subst (λ (a : Administration). length a.entries - seals a.entries < 100000) (sym c.self.view_is) c.requires.room)

  -- the effect with an answer
  abbrev Left : Figures → Result Receipt Refused → Type 0
  Left figures answer =
      Leaves d entries figures c.args.seat (Admits asked) answer
      × HoldsOneMore (of_entries d entries) (of_entries d (entries_with entries c.args.seat (Admits asked) answer)) asked answer

  left : Left c.match-judged.self-inside.state c.match-judged.answer
  unfolding asked of
  left = elim c.match-judged.branch [
    | in-Ok+in_ok-answer-in-Ok w ↦
        subst₂ Left (sym (ap (λ (i : Inside). i.state) w.self-inside-is)) (sym w.answer-is)
        (w.in_ok-answer-in-Ok.ensures.admits entries asked c.args.seat c.self.invariant.0
        (judged_form d asked w.in-Ok.judged w.of_judged-form.result (subst (Judges d asked) w.in-Ok.is of.judges)
        w.of_judged-form.ensures.name (w.of_judged-form.ensures.octets ∙ of.octets_asked) w.of_judged-form.ensures.overhead w.of_judged-form.ensures.pace w.of_judged-form.ensures.tree) few)
    | in-Err w ↦
        subst₂ Left (sym (ap (λ (i : Inside). i.state) w.self-inside-is)) (sym w.answer-is)
        (form_refused c.state_follows_history.ensures.goes_on c.state_follows_history.ensures.counted d entries c.self.inside.state c.args.seat asked
        w.in-Err.refused c.self.invariant.0 (subst (Judges d asked) w.in-Err.is of.judges) few)
  ]

  alike : beside c.match-judged.self-inside ≡ record { domain = d; tabling = c.self.inside.tabling }
  alike = elim c.match-judged.branch [
    | in-Ok+in_ok-answer-in-Ok w ↦ ap beside w.self-inside-is
    | in-Err w ↦ ap beside w.self-inside-is
  ]

  kept : c.match-judged.self-inside.history.items ≡ c.self.inside.history.items
  kept = elim c.match-judged.branch [
    | in-Ok+in_ok-answer-in-Ok w ↦ ap (λ (i : Inside). i.history.items) w.self-inside-is ∙ c.reserve.ensures.items
    | in-Err w ↦ ap (λ (i : Inside). i.history.items) w.self-inside-is ∙ c.reserve.ensures.items
  ]

  -- the call as it is entered
  after_is : map recorded_of c.enter.new.history.items ≡ entries_with entries c.args.seat (Admits asked) c.match-judged.answer
  unfolding asked of
  after_is =
      entered_after c.self.inside.history.items c.match-judged.self-inside.history.items c.enter.new.history.items
      (record { seat = c.args.seat; call = c.args.call; reply = c.reply_of.result }) (Admits asked) kept c.enter.ensures of.act
      ∙ ap (with_entry entries c.args.seat (Admits asked)) c.reply_of.ensures

  entered : Entered d entries (map recorded_of c.enter.new.history.items) c.match-judged.self-inside.state c.args.seat (Admits asked) c.match-judged.answer
  entered =
      entered_with d entries (map recorded_of c.enter.new.history.items) c.match-judged.self-inside.state c.args.seat (Admits asked) c.match-judged.answer
      after_is left.0

  noted : IsNoted c.self.inside.tabling c.note.new.self (is_ok c.match-judged.answer)
  noted = subst₂ (λ (tables : Tables) changed. IsNoted tables c.note.new.self changed) (ap (λ (b : Beside). b.tabling) alike) c.is_ok.ensures.value
      c.note.ensures

pub invariant_of-self-2 : goal.invariant_of-self-2
invariant_of-self-2 c =
    let items = c.enter.new.history.items in
    subst (λ (b : Beside). IsStateOf b.domain (map recorded_of items) c.match-judged.self-inside.state
    × AreTablesOf b.domain (map recorded_of items) c.note.new.self) (sym (alike c)) (
      (entered c).of,
      subst (λ (es : List Recorded). AreTablesOf (d c) es c.note.new.self) (sym (after_is c))
          (tabled (d c) (entries c) c.args.seat (asked c) c.self.inside.tabling c.note.new.self c.match-judged.answer c.self.invariant.1 (noted c)
          (left c).0.answers (left c).1),
    )

pub returns-clause-answers : goal.returns-clause-answers
unfolding asked of
returns-clause-answers c =
    let items = c.enter.new.history.items in
    subst (λ (act : Act). Answers c.args.self.now (of_entries c.match-judged.self-inside.domain (map recorded_of items)) c.args.seat act c.match-judged.answer)
    (sym (of c).act)
    (subst (λ (a : Administration). Answers a (of_entries c.match-judged.self-inside.domain (map recorded_of items)) c.args.seat
    (Admits (asked c)) c.match-judged.answer) c.self.view_is
    (subst (λ (b : Beside). Answers (of_entries (d c) (entries c)) (of_entries b.domain (map recorded_of items)) c.args.seat (Admits (asked c))
    c.match-judged.answer) (sym (alike c)) (entered c).answers))

-- two acts that admit the same request
same_asked : (act : Act) (one other : Asked) → act ≡ Admits one → act ≡ Admits other → one ≡ other
same_asked act one other is same = cc

pub returns-clause-held : goal.returns-clause-held
unfolding asked of
returns-clause-held c other is =
    let items = c.enter.new.history.items in
    subst (λ (asked : Asked). HoldsOneMore c.args.self.now (of_entries c.match-judged.self-inside.domain (map recorded_of items)) asked c.match-judged.answer)
    (same_asked (act_of c.args.call) (asked c) other (of c).act is)
    (subst (λ (a : Administration). HoldsOneMore a (of_entries c.match-judged.self-inside.domain (map recorded_of items)) (asked c)
    c.match-judged.answer) c.self.view_is
    (subst (λ (b : Beside). HoldsOneMore (of_entries (d c) (entries c)) (of_entries b.domain (map recorded_of items)) (asked c) c.match-judged.answer)
    (sym (alike c))
    (subst (λ (es : List Recorded). HoldsOneMore (of_entries (d c) (entries c)) (of_entries (d c) es) (asked c) c.match-judged.answer) (sym (after_is c))
    (left c).1)))
