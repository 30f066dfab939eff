use Rattle.std.proofs.Common.{◌≡◌, ◌∙◌, ◌-◌, ◌<◌, ℕ, List, ap, arith, length, map, subst, sym}
use Rattle.std.proofs.lemmas.List.{length-map}
use Rattle.cqf_model.specs.History.{Withdraws}
use Rattle.cqf_laws_history.specs.StateLaws.{with_entry}
use Rattle.cqf_admission.specs.Orders.{StandsIn, word_at}
use Rattle.cqf_admission.specs.declared.orders.What.TheVariants.{Withdraw}
use Rattle.cqf_admission.specs.Admission.{Answers}
use Rattle.cqf_admission.specs.Asking.{asked_paced}
use Rattle.cqf_admission.specs.declared.logs.Logged.{Logged}
use Rattle.cqf_admission.specs.Ledger.{Kept, recorded_in}
use Rattle.cqf_admission.specs.State.{entries_with, of_entries}
use Rattle.cqf_admission.proofs.Entered.{Entered, entered_with, few_calls}
use Rattle.cqf_admission.proofs.Logging.{logged_after, there_after}
use Rattle.cqf_admission.proofs.ledger.Ledger.withdraw.Goals as goal

-- the call as it is logged
logged : (c : goal.After-enter) → (let i = c.self.inside in let asked = map asked_paced i.requests.now in let entries = map (recorded_in asked i.script.now) i.log.items in
    Entered i.domain.now entries (map (recorded_in asked i.script.now) c.enter.new.log.items) c.withdraw.new.self c.args.seat
    (Withdraws (word_at i.script.now c.args.from c.args.octets)) c.in_ok-answer.answer)
logged c =
    let i = c.self.inside in
    let asked = map asked_paced i.requests.now in
    let entries = map (recorded_in asked i.script.now) i.log.items in
    let after = map (recorded_in asked i.script.now) c.enter.new.log.items in
    let answer = c.in_ok-answer.answer in
    let word = word_at i.script.now c.args.from c.args.octets in
    let e : Logged = record { seat = c.args.seat; what = Withdraw c.args.from c.args.octets; reply = c.reply_of.result } in
    let few : length entries - i.state.sealed < 100000 =
    omega (
      arith,
      few_calls c.is_full.result c.len.result i.state.sealed c.if-is_full.false c.is_full.ensures,
      c.len.ensures,
      length-map i.log.items (recorded_in asked i.script.now),
    ) in
    let is : after ≡ entries_with entries c.args.seat (Withdraws word) answer =
    logged_after asked i.script.now i.log.items c.reserve.new.self.items c.enter.new.log.items e c.reserve.ensures.items c.enter.ensures
    ∙ ap (with_entry entries c.args.seat (Withdraws word)) c.reply_of.ensures in
    rw c.word_of-word.ensures at (entered_with i.domain.now entries after c.withdraw.new.self c.args.seat (Withdraws c.word_of-word.result.now) answer
    (is ∙ ap (λ (w : List ℕ). entries_with entries c.args.seat (Withdraws w) answer) (sym c.word_of-word.ensures))
    (c.in_ok-answer.ensures.withdraws i.domain.now entries c.args.seat c.self.invariant.0 few).0)

pub invariant_of-self-2 : goal.invariant_of-self-2
invariant_of-self-2 c =
    let i = c.self.inside in
    let asked = map asked_paced i.requests.now in
    let e : Logged = record { seat = c.args.seat; what = Withdraw c.args.from c.args.octets; reply = c.reply_of.result } in (
      (logged c).of,
      c.self.invariant.1,
      there_after asked i.script.now i.log.items c.reserve.new.self.items c.enter.new.log.items e c.reserve.ensures.items c.enter.ensures c.self.invariant.2
          (subst (λ (k : Kept). StandsIn k.requests k.script (Withdraw c.args.from c.args.octets)) (sym c.self.view_is) c.requires),
    )

pub returns-clause-answers : goal.returns-clause-answers
returns-clause-answers c =
    let i = c.self.inside in
    let after = map (recorded_in (map asked_paced i.requests.now) i.script.now) c.enter.new.log.items in
    subst (λ (k : Kept). Answers k.administration (of_entries i.domain.now after) c.args.seat (Withdraws (word_at k.script c.args.from c.args.octets))
    c.in_ok-answer.answer) c.self.view_is (logged c).answers
