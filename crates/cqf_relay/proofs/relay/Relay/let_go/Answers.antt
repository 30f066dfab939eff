use Rattle.std.proofs.Common.{◌≡◌, ◌≤◌, ◌<◌, ◌-◌, ap, arith, length, refl, subst}
use Rattle.std.proofs.lemmas.Option.{slice_get_read}
use Rattle.cqf_relay.specs.declared.edge.Edge.{Edge}
use Rattle.cqf_relay.specs.declared.outlet.Outlet.{Outlet}
use Rattle.cqf_relay.specs.Logs.{KeepsFrom}
use Rattle.cqf_relay.proofs.LettingGo.{HaveLetGo, all_taken, lets_go, many_kept, one_let_go}
use Rattle.cqf_relay.proofs.relay.Relay.let_go.Goals as goal

-- one more inlet has removed them
pub loop-index-preserved : goal.loop-index-preserved
loop-index-preserved c =
    let so_far = c.loop-index.invariant in
    let many : length c.loop-index.self.inlets.items ≡ length c.args.self.now.inlets.items =
    many_kept c.loop-outlet.least c.loop-index.index c.args.self.now.inlets.items c.loop-index.self.inlets.items so_far.inlets in
    let inside : c.loop-index.index < length c.loop-index.self.inlets.items =
    omega (arith, many, c.args.self.now.inlets.ok.0, c.len-index-end.ensures, c.loop-index-test.true) in
    record {
      domain = so_far.domain;
      number = so_far.number;
      cycles = so_far.cycles;
      tables = so_far.tables;
      known = so_far.known;
      outlets = so_far.outlets;
      edge = so_far.edge;
      inlets = one_let_go c.loop-outlet.least c.loop-index.index c.args.self.now.inlets.items c.loop-index.self.inlets.items c.index_mut.result.now _
          so_far.inlets (slice_get_read c.loop-index.self.inlets.items _ c.loop-index.index c.index_mut.result.now refl inside c.index_mut.ensures.value)
          (record { link = refl; upto = refl; log = c.let_go.ensures });
    }

-- in the end all have, and the edge
pub returns : goal.returns
returns c =
    let so_far = c.loop-index.invariant in
    let least = c.loop-outlet.least in
    let over : c.loop-index.index ≡ length c.args.self.now.inlets.items =
    omega (arith, c.args.self.now.inlets.ok.0, c.len-index-end.ensures, c.loop-index-test.false, c.loop-index.auto.index-end) in
    lets_go least c.args.self.now _ (record {
      domain = so_far.domain;
      number = so_far.number;
      cycles = so_far.cycles;
      tables = so_far.tables;
      known = so_far.known;
      outlets = so_far.outlets;
      early = all_taken (λ (outlet : Outlet). least ≤ outlet.sent - 1) c.loop-outlet.outlet-index c.as_slice-outlet-items.result.now
          c.args.self.now.outlets.items c.as_slice-outlet-items.ensures.value (omega arith) c.loop-outlet.invariant;
      inlets = subst (λ count. HaveLetGo least count c.args.self.now.inlets.items c.loop-index.self.inlets.items) over so_far.inlets;
      edge_number = ap (λ (edge : Edge). edge.number) so_far.edge;
      used = ap (λ (edge : Edge). edge.used) so_far.edge;
      drops = ap (λ (edge : Edge). edge.drops) so_far.edge;
      log = subst (λ (edge : Edge). KeepsFrom least edge.log.frames.items c.let_go-2.new.self.frames.items) so_far.edge c.let_go-2.ensures;
    })
