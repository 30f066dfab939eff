use Rattle.std.proofs.Common.{◌-◌, ◌+◌, arith, length, refl}
use Rattle.cqf_relay.specs.declared.leads.Leads.{Leads}
use Rattle.cqf_relay.specs.Leading.{by_hops}
use Rattle.cqf_relay.proofs.Sources.{nothing_first, nothing_more, row_learned}
use Rattle.cqf_relay.proofs.leads.Leads.learn.Goals as goal

pub loop-between-init : goal.loop-between-init
loop-between-init c = (
  nothing_first (c.len-between.result - length c.args.self.now.rows.items) c.args.self.now
      (omega (arith, c.len-between.ensures, c.args.self.now.rows.ok.0)),
  omega (arith, c.len-between.ensures, c.args.self.now.rows.ok.0),
)

pub loop-between-preserved : goal.loop-between-preserved
loop-between-preserved c =
    let before = c.args.self.now in
    let next : Leads = record { rows = c.push.new.self; needs = c.loop-between.self.needs; used = c.loop-between.self.used } in (
      nothing_more (c.loop-between._between - length before.rows.items) (c.loop-between._between + 1 - length before.rows.items) before c.loop-between.self next
          (omega (arith, c.len-between.ensures, before.rows.ok.0, c.loop-between.auto._between))
          c.loop-between.invariant.0 c.in_ok-push.ensures.items refl refl,
      omega (arith, c.loop-between-test.true, c.loop-between.invariant.1),
    )

pub returns : goal.returns
returns c =
    let before = c.args.self.now in
    let between : Leads = record { rows = c.push-2.new.self; needs = c.loop-between.self.needs; used = c.loop-between.self.used } in
    row_learned c.args.number (c.loop-between._between - length before.rows.items) before c.loop-between.self between c.note.new.self c.by_tree-by.result
    (by_hops c.args.link c.args.tree.now) c.loop-between.invariant.0 (omega (arith, c.loop-between-test.false, c.loop-between.invariant.1))
    c.by_tree-by.ensures c.in_ok-push-2.ensures.items refl refl c.in_ok-note.ensures.rows c.in_ok-note.ensures.needs c.in_ok-note.ensures.used
