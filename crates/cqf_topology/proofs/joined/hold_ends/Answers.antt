use Rattle.std.proofs.Common.{◌∙◌, ◌++◌, ◌∷◌, [], ap, map, cond}
use Rattle.std.specs.List.{list_any}
use Rattle.cqf_topology.specs.JoinedLink.{ends_held, ends_of, are_same_ends}
use Rattle.std.proofs.lemmas.List.{map-append}
use Rattle.cqf_topology.proofs.HeldEnds.{list_any-held}
use Rattle.cqf_topology.proofs.joined.hold_ends.Goals as goal

pub returns : goal.returns
returns c =
    let keys = c.args.ends.now.keys in
    let held = list_any-held c.link.inside.from c.link.inside.to keys in
    let free = ap (λ link. list_any (are_same_ends (ends_of link)) (map ends_held keys)) c.link.view_is ∙ c.requires in
    let one_more = keys ++ (c.link.inside.from, c.link.inside.to) ∷ [] in
    ap (map ends_held) (c.in_ok-insert.ensures.keys ∙ ap (λ b. cond b keys one_more) (held ∙ free))
    ∙ map-append ends_held keys ((c.link.inside.from, c.link.inside.to) ∷ [])
    ∙ ap (λ link. map ends_held keys ++ ends_of link ∷ []) c.link.view_is
