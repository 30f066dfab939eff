-- What is called for is shared, or copied.
use Rattle.std.proofs.Common.{◌≡◌, ◌∙◌, ◌<◌, sym, ap, refl, map, length, subst, arith}
use Rattle.std.specs.Arc.{arc_value}
use Rattle.std.proofs.lemmas.List.{get_or-map, length-map}
use Rattle.cqf_model.specs.History.{Admits, Withdraws}
use Rattle.cqf_admission.specs.Asking.{asked_paced, asked_shared}
use Rattle.cqf_admission.specs.declared.orders.What.TheVariants as what
use Rattle.cqf_admission.specs.Orders.{StandsIn}
use Rattle.cqf_admission.proofs.OrderLemmas.{shared_read}
use Rattle.cqf_admission.proofs.calls.call_of.Goals as goal
use Rattle.cqf_admission.proofs.calls.call_of.Goals.{in-Admit+in_ok-try_clone-in-Admit, in-Withdraw+in_ok-from_str-in-Withdraw, in-Seal}

pub returns : goal.returns
returns c =
    let requests = map asked_shared c.args.requests.now in
    let text = c.args.text.now in
    elim c.match-order.branch [
      | in-Admit+in_ok-try_clone-in-Admit w ↦
          let position = w.in-Admit.position in
          let copied = ap asked_paced w.in_ok-try_clone-in-Admit.ensures in
          let stands : StandsIn requests text (what.Admit position) = subst (λ what. StandsIn requests text what) w.in-Admit.is c.requires in
          let same : length requests ≡ length c.args.requests.now = length-map c.args.requests.now asked_shared in
          let inside : position < length c.args.requests.now = omega (arith, stands, same) in
          rw (w.call-is, w.in-Admit.is) (ap (λ asked. (c.args.order.seat, Admits asked))
          (copied ∙ sym (shared_read c.args.requests.now position w.index-requests-position.result inside w.index-requests-position.is)))
      | in-Withdraw+in_ok-from_str-in-Withdraw w ↦
          rw (w.call-is, w.in-Withdraw.is) (ap (λ word. (c.args.order.seat, Withdraws word)) (w.in_ok-from_str-in-Withdraw.ensures.ok ∙ w.word_of.ensures))
      | in-Seal w ↦ rw (w.call-is, w.in-Seal.is) refl
    ]
