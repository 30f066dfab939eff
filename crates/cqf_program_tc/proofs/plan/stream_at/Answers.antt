use Rattle.std.proofs.Common.{◌∙◌, Option, [], ap, get_or, length, refl}
use Rattle.std.specs.Option.{option_map_or}
use Rattle.std.proofs.lemmas.Option.{slice_get_read}
use Rattle.cqf_lists.proofs.ByNumber.{list_there}
use Rattle.cqf_model.specs.declared.topology.Row.{Row}
use Rattle.cqf_program_tc.specs.Variables.{stream_variable, variable_at}
use Rattle.cqf_program_tc.proofs.plan.stream_at.Goals as goal

pub returns-clause-variable : goal.returns-clause-variable
returns-clause-variable c =
    let rows = c.args.plan.rows.now in
    let index = c.args.index in
    let row = c.index-plan-index.result in
    c.as_slice.ensures.value
    ∙ list_there (variable_at rows) (length rows) c.args.plan.streams.now index index
    (get_or c.args.plan.streams.now index c.index-plan-index-2.result) c.index-plan-index-2.result c.requires.named.of_streams c.requires.inside refl refl
    ∙ ap (λ (found : Option Row). option_map_or (stream_variable rows) found []) (slice_get_read rows (length rows) index row refl c.requires.inside
    c.index-plan-index.is)
    ∙ ap (stream_variable rows) c.index-plan-index.is
