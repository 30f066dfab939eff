use Rattle.std.proofs.Common.{ap, eq-eqb, ne_eqb, ◌∙◌, sym, subst, ℕ, ◌+◌, List}
use Rattle.cqf_relay.specs.declared.outlet.Outlet.{Outlet}
use Rattle.cqf_relay.specs.Sending.{IsNewOutlet}
use Rattle.cqf_relay.proofs.New.{NewOutletsBelow, outlets_more, outlets_same}
use Rattle.cqf_relay.proofs.relay.new_outlets.Goals.{then-link-number+in_ok-push, else-link-number}
use Rattle.cqf_relay.proofs.relay.new_outlets.Goals as goal

pub loop-index-preserved : goal.loop-index-preserved
loop-index-preserved c = elim c.if-link-number.branch [
  | then-link-number+in_ok-push w ↦
      subst (λ (outlets : List Outlet). NewOutletsBelow c.args.domain.now c.args.number (c.loop-index.index + 1) outlets)
      (sym (ap (λ outlets. outlets.items) w.outlets-is ∙ w.in_ok-push.ensures.items))
      (outlets_more c.args.domain.now c.args.number c.loop-index.index c.link-link.result w.is_some_bridge-onward.result c.loop-index.outlets.items
      w.new.result c.link-link.ensures (eq-eqb c.link-link.result.from c.args.number w.if-link-number.true) w.is_some_bridge-onward.ensures
      (subst (λ (time : ℕ). IsNewOutlet time c.loop-index.index c.link-link.result w.is_some_bridge-onward.result w.new.result)
      w.cycle_time-cycle_time.ensures.value w.new.ensures) c.loop-index.invariant)
  | else-link-number w ↦
      subst (λ outlets. NewOutletsBelow c.args.domain.now c.args.number (c.loop-index.index + 1) outlets.items) (sym w.outlets-is)
      (outlets_same c.args.domain.now c.args.number c.loop-index.index c.link-link.result c.loop-index.outlets.items c.link-link.ensures
      (ne_eqb c.link-link.result.from c.args.number w.if-link-number.false) c.loop-index.invariant)
]
