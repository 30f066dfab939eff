use Rattle.std.proofs.Common.{◌∙◌, ap, map}
use Rattle.std.specs.List.{list_any}
use Rattle.cqf_topology.specs.JoinedLink.{ends_held, ends_of, are_same_ends}
use Rattle.cqf_topology.proofs.HeldEnds.{list_any-held}
use Rattle.cqf_topology.proofs.joined.holds_ends.Goals as goal

pub returns : goal.returns
returns c =
    c.contains.ensures
    ∙ list_any-held c.link.inside.from c.link.inside.to c.args.ends.now.keys
    ∙ ap (λ link. list_any (are_same_ends (ends_of link)) (map ends_held c.args.ends.now.keys)) c.link.view_is
