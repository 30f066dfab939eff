use Rattle.std.proofs.Common.{ℕ, ◌≡◌, ◌∙◌, ◌+◌, ◌<◌, All, List, None, Option, Vec, ap, arith, get_or, length, map, subst, sym}
use Rattle.std.specs.Prelude.{option_copied, slice_index_or}
use Rattle.std.specs.declared.alloc.Global.{Global}
use Rattle.cqf_edge.specs.declared.uses.Handed.{Handed}
use Rattle.cqf_traffic.specs.declared.flows.Flow.{Flow}
use Rattle.cqf_traffic.specs.FlowsText.{flow_text}
use Rattle.cqf_program_plans.proofs.AccessLoads.{AreLoaded, all_little, loaded_all, loaded_more, loaded_none, loaded_past, unloaded_little}
use Rattle.cqf_program_plans.specs.declared.load.access.AccessLoad.{AccessLoad}
use Rattle.cqf_program_plans.specs.Load.Access.{IsLoadedBy, added_load, loads_with, taken_by}
use Rattle.cqf_program_plans.proofs.load.access.access_loads.Goals.{in-Some, in_default}
use Rattle.cqf_program_plans.proofs.load.access.access_loads.Goals as goal

pub loop-index-init : goal.loop-index-init
loop-index-init c =
    let network = c.args.network.now in
    let time = c.args.cycle_time.0 in
    let edge = c.args.edge.now in
    loaded_none network.overhead time c.in_ok-loads.loads.items edge.handed.items edge.flows.items
    (subst (All (IsLoadedBy 0)) (sym c.in_ok-loads.ensures.value) (unloaded_little network time network.talkers))

pub loop-index-preserved : goal.loop-index-preserved
loop-index-preserved c =
    let overhead = c.args.network.now.overhead in
    let time = c.args.cycle_time.0 in
    let edge = c.args.edge.now in
    let first = c.in_ok-loads.loads.items in
    let loads = c.loop-index.loads.items in
    let index = c.loop-index.index in
    let found : slice_index_or edge.handed.items index None ≡ option_copied c.handed_at.result =
    ap (λ (all : List (Option Handed)). slice_index_or all index None) (sym c.as_slice-handed.ensures.value) ∙ sym c.handed_at.ensures in
    let below : index < length edge.flows.items = omega (arith, c.loop-index-test.true, ap length c.as_slice-flows.ensures.value) in
    elim c.match-handed_at.branch [
      | in-Some w ↦
          let flow : Flow = w.index-flows-index.result in
          let one : Handed = w.in-Some.one.now in
          let here = w.index-flows-index.is ∙ ap (λ (flows : List Flow). get_or flows index flow) c.as_slice-flows.ensures.value in
          let after = loaded_more overhead time first edge.handed.items edge.flows.items index flow loads below here c.loop-index.invariant
          one w.add_load.new.loads.items (found ∙ ap option_copied w.in-Some.is)
          (w.add_load.ensures.value
          ∙ ap (λ (f : Flow). added_load loads one.index (taken_by c.overhead-overhead.result time one f.planned.request.octets f.planned.request.every)) (sym w.index-flows-index.is)
          ∙ ap (λ (h : ℕ). added_load loads one.index (taken_by h time one flow.planned.request.octets flow.planned.request.every)) c.overhead-overhead.ensures.value)
          (w.add_load.ensures.few index c.loop-index.invariant.all) in
          subst (λ (v : Vec AccessLoad Global). AreLoaded overhead time first edge.handed.items edge.flows.items (index + 1) v.items) (sym w.loads-is) after
      | in_default w ↦
          subst (λ (v : Vec AccessLoad Global). AreLoaded overhead time first edge.handed.items edge.flows.items (index + 1) v.items) (sym w.loads-is)
          (loaded_past overhead time first edge.handed.items edge.flows.items index loads below c.loop-index.invariant (found ∙ ap option_copied w.in_default.is))
    ]

pub returns-clause-value : goal.returns-clause-value
returns-clause-value c =
    let time = c.args.cycle_time.0 in
    let edge = c.args.edge.now in
    loaded_all c.args.network.now.overhead time c.in_ok-loads.loads.items edge.handed.items edge.flows.items c.loop-index.index c.loop-index.loads.items (omega arith) c.loop-index.invariant
    ∙ ap (λ (first : List AccessLoad). loads_with c.args.network.now.overhead time first edge.handed.items (map flow_text edge.flows.items)) c.in_ok-loads.ensures.value

pub returns-clause-little : goal.returns-clause-little
returns-clause-little c = all_little c.loop-index.index c.loop-index.loads.items c.loop-index.invariant.all
