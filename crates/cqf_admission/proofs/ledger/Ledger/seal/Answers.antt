use Rattle.std.proofs.Common.{List, map, subst, sym}
use Rattle.cqf_model.specs.declared.history.Reply.TheVariants.{Sealed}
use Rattle.cqf_model.specs.History.{Recorded}
use Rattle.cqf_admission.specs.declared.orders.What.TheVariants.{Seal}
use Rattle.cqf_admission.specs.Asking.{asked_paced}
use Rattle.cqf_admission.specs.declared.logs.Logged.{Logged}
use Rattle.cqf_admission.specs.Ledger.{recorded_in}
use Rattle.cqf_admission.specs.State.{IsStateOf}
use Rattle.cqf_admission.proofs.Logging.{logged_after, there_after}
use Rattle.cqf_admission.proofs.ledger.Ledger.seal.Goals as goal

pub invariant_of-self-2 : goal.invariant_of-self-2
invariant_of-self-2 c =
    let i = c.self.inside in
    let asked = map asked_paced i.requests.now in
    let entries = map (recorded_in asked i.script.now) i.log.items in
    let e : Logged = record { seat = c.args.seat; what = Seal; reply = Sealed } in (
      subst (λ (es : List Recorded). IsStateOf i.domain.now es c.seal.new.self)
          (sym (logged_after asked i.script.now i.log.items c.reserve.new.self.items c.enter.new.log.items e c.reserve.ensures.items c.enter.ensures))
          (c.seal.ensures.closes i.domain.now entries c.args.seat c.self.invariant.0).of,
      c.self.invariant.1,
      there_after asked i.script.now i.log.items c.reserve.new.self.items c.enter.new.log.items e c.reserve.ensures.items c.enter.ensures c.self.invariant.2 tt,
    )
