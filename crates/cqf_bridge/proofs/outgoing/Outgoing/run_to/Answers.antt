use Rattle.std.proofs.Common.{ap, arith, length, refl, Option, List, ℕ, ◌<◌}
use Rattle.std.proofs.lemmas.List.Elements.{Contains-get_or}
use Rattle.cqf_model.specs.declared.ports.Arrival.{Arrival}
use Rattle.cqf_port.specs.PortState.{PortState}
use Rattle.cqf_bridge.specs.Batch.{LinkBatch}
use Rattle.cqf_bridge.specs.PortRecord.{PortRecord}
use Rattle.cqf_bridge.proofs.MadeBatch.{has_run_to, runs_to}
use Rattle.cqf_bridge.proofs.outgoing.Outgoing.run_to.Goals as goal

pub hand_all-requires-clause-inside : goal.hand_all-requires-clause-inside
hand_all-requires-clause-inside c =
    let o = c.self.inside in
    let r : PortRecord = record { link = o.link; port = o.port; streams = o.streams.items } in
    let later : o.port.reached < c.args.end.0 = omega (arith, c.requires.later, ap (λ (x : PortRecord). x.port.reached) c.self.view_is) in
    let ran = has_run_to r c.run_to.new.self c.args.end.0 c.starts.result.now c.starts-kept.result.now _ later
    (c.in_ok-run_to.ensures.ok later) c.run_to.ensures.facts c.starts.ensures c.starts-kept.ensures refl in
    λ k d below. omega (
      arith,
      ran.inside _ (Contains-get_or _ k d below),
      ap (λ (xs : List Arrival). length xs) c.arrivals.ensures,
      ap (λ (p : PortState). length p.arrivals) ran.value,
    )

pub hand_all-requires-clause-few : goal.hand_all-requires-clause-few
hand_all-requires-clause-few c =
    let o = c.self.inside in
    let r : PortRecord = record { link = o.link; port = o.port; streams = o.streams.items } in
    let later : o.port.reached < c.args.end.0 = omega (arith, c.requires.later, ap (λ (x : PortRecord). x.port.reached) c.self.view_is) in
    let ran = has_run_to r c.run_to.new.self c.args.end.0 c.starts.result.now c.starts-kept.result.now _ later
    (c.in_ok-run_to.ensures.ok later) c.run_to.ensures.facts c.starts.ensures c.starts-kept.ensures refl in
    omega (arith, ran.few, c.requires.near, ap (λ (x : PortRecord). x.port.reached) c.self.view_is, ap (λ (b : LinkBatch). length b.frames) c.new-batch.ensures)

pub returns : goal.returns
returns c =
    let o = c.self.inside in
    let r : PortRecord = record { link = o.link; port = o.port; streams = o.streams.items } in
    let later : o.port.reached < c.args.end.0 = omega (arith, c.requires.later, ap (λ (x : PortRecord). x.port.reached) c.self.view_is) in
    let ran = has_run_to r c.run_to.new.self c.args.end.0 c.starts.result.now c.starts-kept.result.now _ later
    (c.in_ok-run_to.ensures.ok later) c.run_to.ensures.facts c.starts.ensures c.starts-kept.ensures refl in
    runs_to r _ c.run_to.new.self c.args.end.0 c.args.cycle.0 _ _ _ c.new-batch.result _ _ _ c.self.view_is ran
    c.arrivals.ensures c.as_slice.ensures.value c.new-batch.ensures c.in_ok-hand_all.ensures.batch c.in_ok-hand_all.ensures.background
