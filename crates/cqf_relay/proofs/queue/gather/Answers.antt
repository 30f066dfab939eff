use Rattle.std.proofs.Common.{◌∙◌, ◌++◌, List, append-nil, ap, sym}
use Rattle.std.specs.Global.{Global}
use Rattle.std.specs.declared.vec.Vec.{Vec}
use Rattle.cqf_relay.specs.declared.queue.Queued.{Queued}
use Rattle.cqf_relay.proofs.Sources.{all_gathered, needed_inlet, nothing_goes, unneeded_inlet}
use Rattle.cqf_relay.proofs.queue.gather.Goals.{else-needs, then-needs+in_ok-gather_from}
use Rattle.cqf_relay.proofs.queue.gather.Goals as goal

pub loop-inlet-preserved : goal.loop-inlet-preserved
loop-inlet-preserved c = λ all.
    let leads = c.args.leads.now in
    let inlets = c.args.inlets.now in
    elim c.if-needs.branch [
      | then-needs+in_ok-gather_from w ↦
          needed_inlet leads c.args.cycle inlets c.args.edge.now c.loop-inlet.inlet-index c.inlet-item.result c.args.queue.now.items c.loop-inlet.queue.items
          c.if-needs.queue.items c.needs.result c.loop-inlet-test.true c.inlet-item.is all (c.loop-inlet.invariant all) c.needs.ensures w.if-needs.true
          (λ up. ap (λ (queue : Vec Queued Global). queue.items) w.queue-is ∙ w.in_ok-gather_from.ensures up)
      | else-needs w ↦
          unneeded_inlet leads c.args.cycle inlets c.args.edge.now c.loop-inlet.inlet-index c.inlet-item.result c.args.queue.now.items c.loop-inlet.queue.items
          c.if-needs.queue.items c.needs.result c.loop-inlet-test.true c.inlet-item.is all (c.loop-inlet.invariant all) c.needs.ensures w.if-needs.false
          (ap (λ (queue : Vec Queued Global). queue.items) w.queue-is)
    ]

pub returns-then-not-used : goal.returns-then-not-used
returns-then-not-used c = λ all fits.
    sym (append-nil c.args.queue.now.items) ∙ ap (λ (qs : List Queued). c.args.queue.now.items ++ qs)
    (sym (nothing_goes c.args.leads.now c.args.inlets.now c.args.edge.now c.args.cycle fits (sym c.used.ensures ∙ c.if-not-used.true)))

pub returns : goal.returns
returns c = λ all fits.
    all_gathered c.args.leads.now c.args.cycle c.args.inlets.now c.args.edge.now c.loop-inlet.inlet-index c.args.queue.now.items c.loop-inlet.queue.items
    c.gather_from-2.new.queue.items c.loop-inlet-test.false (c.loop-inlet.invariant all) (c.in_ok-gather_from-2.ensures all.offers)
