use Rattle.std.proofs.Common.{◌∙◌}
use Rattle.cqf_model.specs.declared.topology.Node.TheVariants.{Bridge}
use Rattle.cqf_program_placing.proofs.LedLemmas.{found_is_led, some_zeros}
use Rattle.cqf_program_placing.proofs.paths_there.is_led.Goals as goal

pub returns : goal.returns
returns c =
    c.is_some.ensures
    ∙ found_is_led c.args.links.now _ (Bridge c.args.bridge) c.args.to c.first_path.result c.full_paths_have_a_short_link.ensures.for_nothing
    (some_zeros 4096 _ c.requires.few) c.first_path.ensures
