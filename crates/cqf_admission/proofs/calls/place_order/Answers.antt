-- An order calls for what its name finds.
use Rattle.std.proofs.Common.{◌∙◌, Ok, sym, ap, map}
use Rattle.cqf_admission.specs.Asking.{asked_paced}
use Rattle.cqf_model.specs.History.{Admits, Withdraws}
use Rattle.cqf_admission.specs.Orders.{act_in, request_at}
use Rattle.cqf_admission.specs.Script.{act_for}
use Rattle.cqf_admission.specs.Written.{written}
use Rattle.cqf_admission.proofs.OrderLemmas.{called_for, admits, too_many, unknown_stream}
use Rattle.cqf_admission.proofs.calls.place_order.Goals as goal
use Rattle.cqf_admission.proofs.calls.place_order.Goals.{in-Admit+in-Some, in-Withdraw}

pub returns-in_default-clause-value : goal.returns-in_default-clause-value
returns-in_default-clause-value c =
    λ text ends other. unknown_stream c.args.names.now c.args.position.line c.args.position.called (written c.args.order.now)
    (sym c.index_of.ensures ∙ c.in_default.is) c.in-Admit.is

pub returns-then-many-clause-value : goal.returns-then-many-clause-value
returns-then-many-clause-value c = λ text ends other.
    let requests = map asked_paced c.args.names.now in
    let order = written c.args.order.now in
    elim c.match-order.branch [
      | in-Admit+in-Some w ↦
          let position = w.in-Some.request in
          too_many requests c.args.position.line c.args.position.called order (Admits (request_at requests position))
          (ap (λ wish. act_for requests wish order.name) w.in-Admit.is
          ∙ admits c.args.names.now order.name position (sym w.index_of.ensures ∙ w.in-Some.is)) c.if-many.true
      | in-Withdraw w ↦
          too_many requests c.args.position.line c.args.position.called order (Withdraws order.name)
          (ap (λ wish. act_for requests wish order.name) w.in-Withdraw.is) c.if-many.true
    ]

pub returns-clause-value : goal.returns-clause-value
returns-clause-value c = λ text ends.
    let requests = map asked_paced c.args.names.now in
    let order = written c.args.order.now in
    elim c.match-order.branch [
      | in-Admit+in-Some w ↦
          let position = w.in-Some.request in
          called_for requests c.args.position.line c.args.position.called order (Admits (request_at requests position))
          (ap (λ wish. act_for requests wish order.name) w.in-Admit.is
          ∙ admits c.args.names.now order.name position (sym w.index_of.ensures ∙ w.in-Some.is)) c.if-many.false
          ∙ ap (λ what. Ok (order.seat, act_in requests text what)) (sym w.what-is)
      | in-Withdraw w ↦
          called_for requests c.args.position.line c.args.position.called order (Withdraws order.name)
          (ap (λ wish. act_for requests wish order.name) w.in-Withdraw.is) c.if-many.false
          ∙ ap (λ word. Ok (order.seat, Withdraws word)) (sym ends.ends.is)
          ∙ ap (λ what. Ok (order.seat, act_in requests text what)) (sym w.what-is)
    ]
