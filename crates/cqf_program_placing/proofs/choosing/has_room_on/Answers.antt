use Rattle.std.proofs.Common.{◌≡◌, ◌∙◌, sym}
use Rattle.cqf_model.specs.History.{held_in, seals}
use Rattle.cqf_program_placing.specs.Placing.{has_room_at}
use Rattle.cqf_program_placing.specs.ActiveCycles.{hop_at}
use Rattle.cqf_program_placing.proofs.Chosen.{one_passes}
use Rattle.cqf_program_placing.proofs.choosing.has_room_on.Goals as goal

-- one more hop has room
pub loop-hop-preserved : goal.loop-hop-preserved
loop-hop-preserved c =
    let rows = held_in c.args.domain.now c.args.admission.now.entries (seals c.args.admission.now.entries) in
    one_passes (has_room_at c.args.domain.now rows c.args.cost c.args.pace) c.args.tree.now c.loop-hop.hop-index (hop_at 0) c.loop-hop-test.true
    (sym c.has_room_at.ensures ∙ c.if-not-has_room_at.false) c.loop-hop.invariant
