use Rattle.std.proofs.Common.{◌+◌, [], List, length, refl, subst, sym}
use Rattle.std.proofs.lemmas.Option.{slice_get_read}
use Rattle.cqf_instants.specs.declared.laying.Group.{Group}
use Rattle.cqf_instants.specs.declared.queues.LaidHop.{LaidHop}
use Rattle.cqf_instants_run.specs.Laid.{AreLaid}
use Rattle.cqf_instants_run.proofs.Trees.{lays_more, lays_none}
use Rattle.cqf_instants_run.proofs.laying.lay_streams.Goals as goal

pub loop-row-init : goal.loop-row-init
loop-row-init c =
    let cycles = c.args.cycles in
    let rows = c.args.rows.now in
    let none = subst (λ (gs : List Group). AreLaid cycles rows 0 [] gs) (sym c.in_ok-groups.ensures.items) (lays_none cycles rows) in (
      subst (λ (bs : List LaidHop). AreLaid cycles rows 0 bs c.in_ok-groups.groups.items) (sym c.new-branches.ensures.items) none,
      c.in_ok-following.ensures,
    )

pub loop-row-preserved : goal.loop-row-preserved
loop-row-preserved c =
    let cycles = c.args.cycles in
    let rows = c.args.rows.now in
    let index = c.loop-row.row-index in
    let row = c.row-item.result in
    let more = lays_more cycles rows index row c.loop-row.branches.items c.lay_stream.new.branches.items c.loop-row.groups.items c.in_ok-group.group
    (slice_get_read rows (length rows) index row refl c.loop-row-test.true c.row-item.is) c.loop-row.invariant.0 c.in_ok-group.ensures.lays in (
      subst (λ (gs : List Group). AreLaid cycles rows (index + 1) c.lay_stream.new.branches.items gs) (sym c.in_ok-push.ensures.items) more,
      c.in_ok-group.ensures.indices,
    )
