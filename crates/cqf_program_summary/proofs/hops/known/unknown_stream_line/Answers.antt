use Rattle.std.proofs.Common.{◌≡◌, ◌∙◌, ap, false, refl, true}
use Rattle.std.proofs.lemmas.Bool.{both_ways, false_from_ne_true}
use Rattle.cqf_units.specs.Name.{is_name}
use Rattle.cqf_program_summary.proofs.Known.{hidden}
use Rattle.cqf_program_summary.proofs.hops.known.unknown_stream_line.Goals as goal

pub returns-in_ok-line-in-None : goal.returns-in_ok-line-in-None
returns-in_ok-line-in-None c =
    let name = c.args.name.now in
    let unnamed : is_name name ≡ false =
    false_from_ne_true (is_name name) (λ t. both_ways false refl (c.in-None.ensures.form.1 (ap is_name c.as_bytes.ensures.value ∙ t))) in
    c.in_ok-line-in-None.ensures.ok ∙ hidden name unnamed
