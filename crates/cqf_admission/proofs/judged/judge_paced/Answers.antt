use Rattle.std.proofs.Common.{◌≡◌, ◌<◌, ◌^◌, subst, sym}
use Rattle.cqf_model.specs.History.{Asked}
use Rattle.cqf_admission.specs.Asking.{asked_paced, asked_with}
use Rattle.cqf_admission.specs.Judging.{Judges}
use Rattle.cqf_admission.specs.Branches.{branches_of, indices_of}
use Rattle.cqf_admission.proofs.judged.judge_paced.Goals as goal

pub judge_parts-requires : goal.judge_parts-requires
judge_parts-requires c = subst (λ paths. indices_of (branches_of paths) < 2 ^ 64) (sym c.as_slice-paths.ensures.value) c.requires

pub returns : goal.returns
returns c =
    let same : asked_with c.as_str-name.result.now c.args.request.now.octets c.args.request.now.every c.args.request.now.phase (branches_of c.as_slice-paths.result.now) ≡ asked_paced c.args.request.now =
    λ i. asked_with (c.as_str-name.ensures.value i) c.args.request.now.octets c.args.request.now.every c.args.request.now.phase (branches_of (c.as_slice-paths.ensures.value i)) in
    subst (λ (asked : Asked). Judges c.args.domain.now asked c.judge_parts.result) same c.judge_parts.ensures
