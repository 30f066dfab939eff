use Rattle.std.proofs.Common.{◌≡◌, ◌<◌, ◌≤◌, ◌∙◌, All, List, arith, ap, length, refl, subst, sym}
use Rattle.std.proofs.lemmas.List.{with_items_is}
use Rattle.cqf_model.specs.History.{held_in, seals}
use Rattle.cqf_model.specs.Table.{links_in}
use Rattle.cqf_program_placing.specs.declared.rooms.Emptiest.{Emptiest}
use Rattle.cqf_program_placing.specs.Known.{IsFilled, IsKnown}
use Rattle.cqf_program_placing.proofs.Known.{AreSoFar, all_so_far, none_so_far, one_so_far}
use Rattle.cqf_program_placing.proofs.rooms.Rooms.renew.Goals as goal

pub loop-emptiest-init : goal.loop-emptiest-init
loop-emptiest-init c =
    let d = c.args.domain.now in
    let rows = held_in d c.args.admission.now.entries (seals c.args.admission.now.entries) in
    subst (λ (items : List Emptiest). AreSoFar d rows (links_in c.args.tree.now) 0 c.args.self.now.known.items items)
    (sym c.deref_mut-emptiest-items.ensures.value) (none_so_far d rows (links_in c.args.tree.now) c.args.self.now.known.items)

pub renew_lefts-requires-clause-filled : goal.renew_lefts-requires-clause-filled
renew_lefts-requires-clause-filled c =
    let k = c.loop-emptiest.emptiest-index in
    let item = c.emptiest-item.result in
    let inside : k < length c.args.self.now.known.items = omega (arith, c.loop-emptiest-test.true, ap length c.deref_mut-emptiest-items.ensures.value) in
    subst (IsFilled c.args.domain.now) (sym (c.loop-emptiest.invariant.rest k item (omega arith))) (c.requires.filled k item inside)

pub loop-emptiest-preserved : goal.loop-emptiest-preserved
loop-emptiest-preserved c =
    let d = c.args.domain.now in
    let rows = held_in d c.args.admission.now.entries (seals c.args.admission.now.entries) in
    let k = c.loop-emptiest.emptiest-index in
    let inside : k < length c.args.self.now.known.items = omega (arith, c.loop-emptiest-test.true, ap length c.deref_mut-emptiest-items.ensures.value) in
    one_so_far d rows (links_in c.args.tree.now) k c.args.self.now.known.items c.loop-emptiest.emptiest-items _ c.renew_lefts.new.emptiest c.emptiest-item.result
    inside c.loop-emptiest.invariant refl (record { every = c.renew_lefts.ensures.every; left = c.renew_lefts.ensures.left })

pub returns : goal.returns
returns c = λ before known off.
    let d = c.args.domain.now in
    let rows = held_in d c.args.admission.now.entries (seals c.args.admission.now.entries) in
    let now = c.loop-emptiest.emptiest-items in
    let many = c.loop-emptiest.invariant.as_many in
    let given = ap length c.deref_mut-emptiest-items.ensures.value in
    let end : length c.args.self.now.known.items ≤ c.loop-emptiest.emptiest-index = omega (arith, c.loop-emptiest-test.false, given) in
    let kept = with_items_is c.args.self.now.known now (omega (arith, many, given, c.deref_mut-emptiest-items.ensures.len)) in
    subst (All (IsKnown d rows)) (sym kept)
    (all_so_far d rows (links_in c.args.tree.now) c.loop-emptiest.emptiest-index c.args.self.now.known.items now before end c.loop-emptiest.invariant known off)
