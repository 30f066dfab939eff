use Rattle.std.proofs.Common.{◌∙◌, ap, sym, not}
use Rattle.std.specs.Prelude.{String, map, string_bytes}
use Rattle.std.specs.List.{list_any}
use Rattle.std.specs.declared.alloc.Global.{Global}
use Rattle.cqf_lists.proofs.Any.{list_any-map}
use Rattle.cqf_model.specs.Domain.{is_text}
use Rattle.cqf_admission.proofs.branches.are_parts_apart.Goals as goal

pub returns : goal.returns
returns c =
    let names = c.args.names.now in
    let others = c.args.others.now in
    ap not (c.have_common.ensures
    ∙ (λ i. list_any (λ (name : String Global). sym (list_any-map (λ y. is_text (string_bytes name) y) string_bytes others) i) names)
    ∙ sym (list_any-map (λ x. list_any (λ y. is_text x y) (map string_bytes others)) string_bytes names))
