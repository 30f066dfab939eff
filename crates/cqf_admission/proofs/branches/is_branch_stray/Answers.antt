use Rattle.cqf_admission.proofs.PartLemmas.{stray_is}
use Rattle.cqf_admission.proofs.branches.is_branch_stray.Goals as goal

pub returns : goal.returns
returns c = stray_is c.args.paths.now c.args.number c.index-paths-number.result c.as_slice.result.now c.requires c.index-paths-number.is
    c.as_slice.ensures.value c.is_stray_after.result c.is_stray_after.ensures
