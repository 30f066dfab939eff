use Rattle.std.proofs.Common.{◌<◌, ◌∙◌, Some, ap, length, rules}
use Rattle.std.specs.Arc.{arc_value}
use Rattle.std.proofs.lemmas.List.{get_or_read}
use Rattle.std.proofs.lemmas.List.Sorted.{answers_always}
use Rattle.cqf_model.specs.declared.topology.Row.{Row}
use Rattle.cqf_admission.proofs.TableLemmas.{searched}
use Rattle.cqf_admission.proofs.listed.row_with_number.Goals as goal

pub returns-in-Ok : goal.returns-in-Ok
returns-in-Ok c =
    let facts = c.binary_search_by_key.ensures in
    let by_number = facts.position (λ row. (arc_value row).no) (answers_always _ _ _ (λ f a r g called. search rules)) in
    let inside : c.in-Ok.index < length c.args.rows.now = rw c.in-Ok.is at facts.bound in
    ap (λ (r : Row). Some r) c.deref.ensures
    ∙ (rw c.in-Ok.is at (searched (λ row. arc_value row) c.args.rows.now c.args.no c.requires _ facts.bound by_number)) c.index-rows-index.result
    (get_or_read c.args.rows.now c.in-Ok.index _ inside c.index-rows-index.is c.index-rows-index.result)

pub returns-in-Err : goal.returns-in-Err
returns-in-Err c =
    let facts = c.binary_search_by_key.ensures in
    let by_number = facts.position (λ row. (arc_value row).no) (answers_always _ _ _ (λ f a r g called. search rules)) in
    rw c.in-Err.is at (searched (λ row. arc_value row) c.args.rows.now c.args.no c.requires _ facts.bound by_number)
