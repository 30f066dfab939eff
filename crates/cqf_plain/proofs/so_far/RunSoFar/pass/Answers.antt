use Rattle.std.proofs.Common.{◌+◌, ◌∙◌, ℕ, List, ap, map, subst, sym}
use Rattle.cqf_model.specs.Book.{contents_of}
use Rattle.cqf_plain.specs.declared.driven.RunBridge.{RunBridge}
use Rattle.cqf_plain.specs.SoFar.{SoFarState, IsAt, IsQuietCycle}
use Rattle.cqf_bridge.specs.Quiet.{MayPass}
use Rattle.cqf_plain.specs.Due.{driven_past}
use Rattle.cqf_plain.proofs.Passing.{may_pass, passed_at}
use Rattle.cqf_plain.proofs.so_far.RunSoFar.pass.Goals as goal

-- each bridge may pass over the cycle
pub pass_all-requires : goal.pass_all-requires
pass_all-requires c = λ s held.
    let i = c.self.inside in
    let now : SoFarState = record { bridges = i.bridges.items; due = i.due.entries; book = contents_of i.book } in
    let cycle = c.args.table.now.cycle in
    let p = c.requires.part in
    let at : IsAt p.0 p.1 cycle now = subst (IsAt p.0 p.1 cycle) (sym c.self.view_is) p.2.at in
    let quiet : IsQuietCycle c.args.domain.now cycle now = subst (IsQuietCycle c.args.domain.now cycle) (sym c.self.view_is) c.requires.quiet in
    subst (MayPass s.bridge) (sym c.cycle.ensures)
    (may_pass p.0 p.1 cycle p.2.of_run now at c.args.domain.now p.2.domain quiet c.legal_part_is_legal.ensures.part c.requires.early s held)

-- then the run is at the next
pub returns : goal.returns
returns c = λ run net may.
    let i = c.self.inside in
    let now : SoFarState = record { bridges = i.bridges.items; due = i.due.entries; book = contents_of i.book } in
    let cycle = c.args.table.now.cycle in
    let at : IsAt run net cycle now = subst (IsAt run net cycle) (sym c.self.view_is) may.at in
    let quiet : IsQuietCycle c.args.domain.now cycle now = subst (IsQuietCycle c.args.domain.now cycle) (sym c.self.view_is) c.requires.quiet in
    subst (λ (xs : List RunBridge). IsAt run net (cycle + 1) (record { bridges = xs; due = i.due.entries; book = contents_of i.book }))
    (sym (c.in_ok-pass_all.ensures ∙ ap (λ (n : ℕ). map (driven_past n) i.bridges.items) c.cycle.ensures))
    (passed_at run net cycle may.of_run now at c.args.domain.now may.domain quiet c.legal_part_is_legal.ensures.part c.sending_follows.ensures
    c.frames_are_taken_in_order.ensures.taken c.receiving_follows.ensures c.verdicts_are_the_runs.ensures.verdicts c.run_is_its_cycles.ensures.losses)
