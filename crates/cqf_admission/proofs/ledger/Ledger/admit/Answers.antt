-- A request is answered by its form and the state, and its entry is the next one.
use Rattle.std.proofs.Common.{◌≡◌, ◌∙◌, ◌-◌, ◌<◌, ℕ, List, Result, ap, arith, get_or, length, map, set, subst, subst₂, sym}
use Rattle.std.specs.Prelude.{Err}
use Rattle.std.proofs.lemmas.List.{get_or_default, length-map}
use Rattle.std.proofs.lemmas.Result.{err_from_is_err_and}
use Rattle.cqf_model.specs.declared.history.Receipt.{Receipt}
use Rattle.cqf_model.specs.declared.history.Refused.{Refused}
use Rattle.cqf_model.specs.Domain.{Domain}
use Rattle.cqf_model.specs.History.{Admits, Asked, Recorded}
use Rattle.cqf_model.specs.Limits.{most_calls}
use Rattle.cqf_laws_history.specs.StateLaws.{with_entry}
use Rattle.cqf_topology.specs.declared.paced.PacedRequest.{PacedRequest}
use Rattle.cqf_admission.specs.Orders.{request_at}
use Rattle.cqf_admission.specs.declared.orders.What.TheVariants.{Admit}
use Rattle.cqf_admission.specs.Admission.{Answers, HoldsOneMore, calls}
use Rattle.cqf_admission.specs.Asking.{asked_paced}
use Rattle.cqf_admission.specs.declared.forms.RequestForm.{RequestForm}
use Rattle.cqf_admission.specs.declared.ledger.Ledger.TheInside.{Inside}
use Rattle.cqf_admission.specs.declared.logs.Logged.{Logged}
use Rattle.cqf_admission.specs.Forms.{IsFormOf}
use Rattle.cqf_admission.specs.Ledger.{Kept, recorded_in}
use Rattle.cqf_admission.specs.Running.{AreForms, AreThere}
use Rattle.cqf_admission.specs.State.{Figures, IsStateOf, Leaves, entries_with, of_entries}
use Rattle.cqf_admission.proofs.Entered.{Entered, entered_with, few_calls, form_refused, good_form, stays_state}
use Rattle.cqf_admission.proofs.Logging.{asked_at, form_at, forms_set, logged_after, put_there, there_after}
use Rattle.cqf_admission.proofs.RunLemmas.{answers_memory}
use Rattle.cqf_admission.proofs.ledger.Ledger.admit.Goals as goal
use Rattle.cqf_admission.proofs.ledger.Ledger.admit.Goals.{in-Bad, in-Good+in_ok-answer-in-Good}

-- the request at the index, whose form is among the known ones
module _ (d : Domain) (rs : List PacedRequest) (forms : List RequestForm) (index : ℕ) (read : PacedRequest) (there : index < length (map asked_paced rs))
    (known : AreForms d rs forms) where
  low : index < length rs
  low = omega (arith, there, length-map rs asked_paced)

  abbrev request : PacedRequest
  request = get_or rs index read

  is_there : request ≡ get_or rs index request
  is_there = get_or_default rs index read request low

  is_asked : request_at (map asked_paced rs) index ≡ asked_paced request
  is_asked = asked_at rs index request low is_there

  found : (form : RequestForm) → form ≡ get_or forms index form → IsFormOf d (asked_paced request) form
  found form at = form_at d rs forms index request form known low is_there at

  -- with its form seen, the forms are still known
  seen : (form : RequestForm) → IsFormOf d (asked_paced request) form → AreForms d rs (set forms index form)
  seen form of = forms_set d rs forms index request form known low is_there of

  again : (form found : RequestForm) → IsFormOf d (asked_paced request) form → found ≡ get_or (set forms index form) index found → IsFormOf d (asked_paced request) found
  again form found of at =
      subst (IsFormOf d (asked_paced request)) (sym (put_there forms index form found (omega (arith, low, known.as_many)) at)) of

pub see-requires : goal.see-requires
see-requires c =
    let i = c.self.inside in
    found i.domain.now i.requests.now i.forms.items c.args.index c.index-self-index.result
    (subst (λ (k : Kept). c.args.index < length k.requests) (sym c.self.view_is) c.requires) c.self.invariant.1 c.index_mut-form.result.now
    c.index_mut-form.ensures.value

pub invariant_of-self-in_err-see : goal.invariant_of-self-in_err-see
invariant_of-self-in_err-see c =
    let i = c.self.inside in
    let asked = map asked_paced i.requests.now in (
      subst (λ (log : List Logged). IsStateOf i.domain.now (map (recorded_in asked i.script.now) log) i.state) (sym c.reserve.ensures.items) c.self.invariant.0,
      seen i.domain.now i.requests.now i.forms.items c.args.index c.index-self-index.result
          (subst (λ (k : Kept). c.args.index < length k.requests) (sym c.self.view_is) c.requires) c.self.invariant.1 c.see.new.form c.see.ensures.form,
      subst (AreThere asked i.script.now) (sym c.reserve.ensures.items) c.self.invariant.2,
    )

pub admit-requires-clause-request : goal.admit-requires-clause-request
admit-requires-clause-request c =
    let i = c.self.inside in
    let request = get_or i.requests.now c.args.index c.index-self-index.result in
    let of : IsFormOf i.domain.now (asked_paced request) c.index.result.now =
    again i.domain.now i.requests.now i.forms.items c.args.index c.index-self-index.result
    (subst (λ (k : Kept). c.args.index < length k.requests) (sym c.self.view_is) c.requires) c.self.invariant.1 c.see.new.form c.index.result.now
    c.see.ensures.form c.index.ensures in
    record {
      asked = asked_paced request;
      is = good_form i.domain.now (asked_paced request) c.in-Good.row c.of_row.result (subst (IsFormOf i.domain.now (asked_paced request)) c.in-Good.is of)
          c.of_row.ensures.name c.of_row.ensures.octets c.of_row.ensures.overhead c.of_row.ensures.pace c.of_row.ensures.tree;
    }

pub invariant_of-self-in_err-answer-in-Good : goal.invariant_of-self-in_err-answer-in-Good
invariant_of-self-in_err-answer-in-Good c =
    let i = c.self.inside in
    let asked = map asked_paced i.requests.now in (
      subst (λ (log : List Logged). IsStateOf i.domain.now (map (recorded_in asked i.script.now) log) c.admit.new.self) (sym c.reserve.ensures.items)
          (stays_state i.domain.now (map (recorded_in asked i.script.now) i.log.items) i.state c.admit.new.self c.self.invariant.0
          c.in_err-answer-in-Good.ensures.same),
      seen i.domain.now i.requests.now i.forms.items c.args.index c.index-self-index.result
          (subst (λ (k : Kept). c.args.index < length k.requests) (sym c.self.view_is) c.requires) c.self.invariant.1 c.see.new.form c.see.ensures.form,
      subst (AreThere asked i.script.now) (sym c.reserve.ensures.items) c.self.invariant.2,
    )

pub returns-in_err-answer-in-Good-clause-answers : goal.returns-in_err-answer-in-Good-clause-answers
returns-in_err-answer-in-Good-clause-answers c =
    let i = c.self.inside in
    let asked = map asked_paced i.requests.now in
    let entries = map (recorded_in asked i.script.now) i.log.items in
    let few : length entries - i.state.sealed < 100000 =
    omega (
      arith,
      few_calls c.is_full.result c.len.result i.state.sealed c.if-is_full.false c.is_full.ensures,
      c.len.ensures,
      length-map i.log.items (recorded_in asked i.script.now),
    ) in
    let p = err_from_is_err_and c.from_residual-in_err-answer-in-Good.result c.from_residual-in_err-answer-in-Good.ensures.1 in
    answers_memory c.args.self.now.administration
    (of_entries i.domain.now (map (recorded_in asked i.script.now) c.reserve.new.self.items)) c.args.seat
    (Admits (request_at c.args.self.now.requests c.args.index)) c.from_residual-in_err-answer-in-Good.result (p.1 ∙ ap Err p.2)
    (subst (λ (k : Kept). calls k.administration.entries < most_calls) c.self.view_is
    (subst (λ (sealed : ℕ). length entries - sealed < most_calls) c.self.invariant.0.0.running.counted few))
    (ap (λ (log : List Logged). of_entries i.domain.now (map (recorded_in asked i.script.now) log)) c.reserve.ensures.items
    ∙ ap (λ (k : Kept). k.administration) c.self.view_is)

-- what a ledger has besides its state and its log
record Beside : Type 0 where
  domain : Domain
  requests : List PacedRequest
  script : List ℕ
  forms : List RequestForm

abbrev beside : Inside → Beside
beside i = record { domain = i.domain.now; requests = i.requests.now; script = i.script.now; forms = i.forms.items }

-- a call that enters the log
module _ (c : goal.After-enter) where
  abbrev d : Domain
  d = c.self.inside.domain.now

  abbrev requests : List Asked
  requests = map asked_paced c.self.inside.requests.now

  abbrev script : List ℕ
  script = c.self.inside.script.now

  abbrev entries : List Recorded
  entries = map (recorded_in requests script) c.self.inside.log.items

  abbrev asked : Asked
  asked = asked_paced (get_or c.self.inside.requests.now c.args.index c.index-self-index.result)

  abbrev forms_then : List RequestForm
  forms_then = set c.self.inside.forms.items c.args.index c.see.new.form

  there : c.args.index < length requests
  there = subst (λ (k : Kept). c.args.index < length k.requests) (sym c.self.view_is) c.requires

  asked_is : request_at requests c.args.index ≡ asked
  asked_is = is_asked d c.self.inside.requests.now c.self.inside.forms.items c.args.index c.index-self-index.result there c.self.invariant.1

  form : IsFormOf d asked c.index.result.now
  form =
      again d c.self.inside.requests.now c.self.inside.forms.items c.args.index c.index-self-index.result there c.self.invariant.1 c.see.new.form
      c.index.result.now c.see.ensures.form c.index.ensures

  few : length entries - c.self.inside.state.sealed < 100000
  few = omega (
    arith,
    few_calls c.is_full.result c.len.result c.self.inside.state.sealed c.if-is_full.false c.is_full.ensures,
    c.len.ensures,
    length-map c.self.inside.log.items (recorded_in requests script),
  )

  -- the effect with an answer
  abbrev Left : Figures → Result Receipt Refused → Type 0
  Left figures answer =
      Leaves d entries figures c.args.seat (Admits asked) answer
      × HoldsOneMore (of_entries d entries) (of_entries d (entries_with entries c.args.seat (Admits asked) answer)) asked answer

  left : Left c.match-index.self-inside.state c.match-index.answer
  left = elim c.match-index.branch [
    | in-Bad w ↦
        subst₂ Left (sym (ap (λ (i : Inside). i.state) w.self-inside-is)) (sym w.answer-is)
        (form_refused c.state_follows_history.ensures.goes_on c.state_follows_history.ensures.counted d entries c.self.inside.state c.args.seat asked
        w.in-Bad.refused c.self.invariant.0 (subst (IsFormOf d asked) w.in-Bad.is form) few)
    | in-Good+in_ok-answer-in-Good w ↦
        subst₂ Left (sym (ap (λ (i : Inside). i.state) w.self-inside-is)) (sym w.answer-is)
        (w.in_ok-answer-in-Good.ensures.admits entries asked c.args.seat c.self.invariant.0
        (good_form d (asked_paced (get_or c.self.inside.requests.now c.args.index c.index-self-index.result)) w.in-Good.row w.of_row.result
        (subst (IsFormOf d asked) w.in-Good.is form) w.of_row.ensures.name w.of_row.ensures.octets w.of_row.ensures.overhead w.of_row.ensures.pace w.of_row.ensures.tree) few)
  ]

  alike : beside c.match-index.self-inside ≡ record { domain = d; requests = c.self.inside.requests.now; script = script; forms = forms_then }
  alike = elim c.match-index.branch [
    | in-Bad w ↦ ap beside w.self-inside-is
    | in-Good+in_ok-answer-in-Good w ↦ ap beside w.self-inside-is
  ]

  kept : c.match-index.self-inside.log.items ≡ c.self.inside.log.items
  kept = elim c.match-index.branch [
    | in-Bad w ↦ ap (λ (i : Inside). i.log.items) w.self-inside-is ∙ c.reserve.ensures.items
    | in-Good+in_ok-answer-in-Good w ↦ ap (λ (i : Inside). i.log.items) w.self-inside-is ∙ c.reserve.ensures.items
  ]

  -- its entry
  abbrev logged : Logged
  logged = record { seat = c.args.seat; what = Admit c.args.index; reply = c.reply_of.result }

  after_is : map (recorded_in requests script) c.enter.new.log.items ≡ entries_with entries c.args.seat (Admits asked) c.match-index.answer
  after_is =
      logged_after requests script c.self.inside.log.items c.match-index.self-inside.log.items c.enter.new.log.items logged kept c.enter.ensures
      ∙ ap (λ (a : Asked). with_entry entries c.args.seat (Admits a) c.reply_of.result) asked_is
      ∙ ap (with_entry entries c.args.seat (Admits asked)) c.reply_of.ensures

  entered : Entered d entries (map (recorded_in requests script) c.enter.new.log.items) c.match-index.self-inside.state c.args.seat (Admits asked)
      c.match-index.answer
  entered =
      entered_with d entries (map (recorded_in requests script) c.enter.new.log.items) c.match-index.self-inside.state c.args.seat (Admits asked)
      c.match-index.answer after_is left.0

  held : HoldsOneMore (of_entries d entries) (of_entries d (map (recorded_in requests script) c.enter.new.log.items)) asked c.match-index.answer
  held = subst (λ (es : List Recorded). HoldsOneMore (of_entries d entries) (of_entries d es) asked c.match-index.answer) (sym after_is) left.1

pub invariant_of-self-2 : goal.invariant_of-self-2
invariant_of-self-2 c =
    let items = c.enter.new.log.items in
    subst (λ (b : Beside). IsStateOf b.domain (map (recorded_in (map asked_paced b.requests) b.script) items) c.match-index.self-inside.state
    × AreForms b.domain b.requests b.forms × AreThere (map asked_paced b.requests) b.script items) (sym (alike c)) (
      (entered c).of,
      seen (d c) c.self.inside.requests.now c.self.inside.forms.items c.args.index c.index-self-index.result (there c) c.self.invariant.1 c.see.new.form
          c.see.ensures.form,
      there_after (requests c) (script c) c.self.inside.log.items c.match-index.self-inside.log.items items (logged c) (kept c) c.enter.ensures
          c.self.invariant.2 (there c),
    )

pub returns-clause-answers : goal.returns-clause-answers
returns-clause-answers c =
    let items = c.enter.new.log.items in
    subst (λ (k : Kept). Answers k.administration (of_entries c.match-index.self-inside.domain.now
    (map (recorded_in (map asked_paced c.match-index.self-inside.requests.now) c.match-index.self-inside.script.now) items)) c.args.seat
    (Admits (request_at k.requests c.args.index)) c.match-index.answer) c.self.view_is
    (subst (λ (b : Beside). Answers (of_entries (d c) (entries c)) (of_entries b.domain (map (recorded_in (map asked_paced b.requests) b.script) items))
    c.args.seat (Admits (request_at (requests c) c.args.index)) c.match-index.answer) (sym (alike c))
    (subst (λ (a : Asked). Answers (of_entries (d c) (entries c)) (of_entries (d c) (map (recorded_in (requests c) (script c)) items)) c.args.seat (Admits a)
    c.match-index.answer) (sym (asked_is c)) (entered c).answers))

pub returns-clause-held : goal.returns-clause-held
returns-clause-held c =
    let items = c.enter.new.log.items in
    subst (λ (k : Kept). HoldsOneMore k.administration (of_entries c.match-index.self-inside.domain.now
    (map (recorded_in (map asked_paced c.match-index.self-inside.requests.now) c.match-index.self-inside.script.now) items))
    (request_at k.requests c.args.index) c.match-index.answer) c.self.view_is
    (subst (λ (b : Beside). HoldsOneMore (of_entries (d c) (entries c)) (of_entries b.domain (map (recorded_in (map asked_paced b.requests) b.script) items))
    (request_at (requests c) c.args.index) c.match-index.answer) (sym (alike c))
    (subst (λ (a : Asked). HoldsOneMore (of_entries (d c) (entries c)) (of_entries (d c) (map (recorded_in (requests c) (script c)) items)) a
    c.match-index.answer) (sym (asked_is c)) (held c)))
