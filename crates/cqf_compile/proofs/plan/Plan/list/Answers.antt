-- There is a list for each link, at its index.
use Rattle.std.proofs.Common.{◌<◌, ◌≡◌, ◌∙◌, ◌∷◌, [], ℕ, List, ap, ap₂, arith, get_or, length}
use Rattle.cqf_lists.proofs.EachBelow.{get_or-singles, length-singles}
use Rattle.cqf_model.specs.Domain.{Domain}
use Rattle.cqf_model.specs.GateList.{Entry}
use Rattle.cqf_model.specs.Network.{compiled_lists}
use Rattle.cqf_compile.proofs.plan.Plan.list.Goals as goal

pub index-requires : goal.index-requires
index-requires c =
    omega (
      arith,
      c.requires,
      c.from.ensures,
      ap (λ (d : Domain). length d.links) c.self.view_is,
      ap length c.self.invariant.one_each,
      length-singles (λ (l : ℕ). compiled_lists c.self.inside.domain l) (length c.self.inside.domain.links),
    )

pub returns : goal.returns
returns c =
    let d = c.self.inside.domain in
    let list = c.index.result.now in
    let inside : c.args.link < length d.links = omega (arith, c.requires, ap (λ (it : Domain). length it.links) c.self.view_is) in
    c.index.ensures
    ∙ ap₂ (λ (lists : List (List Entry)) (index : ℕ). get_or lists index list) c.self.invariant.one_each c.from.ensures
    ∙ get_or-singles (λ (l : ℕ). compiled_lists d l) (length d.links) c.args.link list inside
    ∙ ap (λ (it : Domain). compiled_lists it c.args.link) c.self.view_is
