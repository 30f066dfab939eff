use Rattle.std.proofs.Common.{◌∙◌, ap, is_some}
use Rattle.cqf_lists.proofs.Any.{position_any}
use Rattle.cqf_model.specs.Domain.{is_text}
use Rattle.cqf_topology.specs.DomainText.{is_among}
use Rattle.cqf_topology.specs.Names.{Numbered}
use Rattle.cqf_topology.proofs.names.NameList.contains.Goals as goal

pub returns : goal.returns
returns c =
    c.contains_key.ensures ∙ ap is_some (c.self.invariant c.args.name.now)
    ∙ position_any (λ other. is_text other c.args.name.now) c.self.inside.names.items
    ∙ ap (λ (n : Numbered). is_among c.args.name.now n.keys) c.self.view_is
