use Rattle.cqf_program_runs.proofs.KeptSlots.{keeps_set}
use Rattle.cqf_program_runs.proofs.deliveries.under_way.keep_in.Goals as goal

pub returns : goal.returns
returns c =
    keeps_set c.args.slots.now.items c.args.following c.args.column c.keep.new.slot c.index_mut.result.now _ c.args.whole c.requires
    c.index_mut.ensures.value c.keep.ensures
