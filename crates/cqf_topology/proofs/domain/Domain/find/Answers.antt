use Rattle.std.proofs.Common.{◌≡◌, false, ap, sym, subst, ◌∙◌}
use Rattle.std.proofs.lemmas.Bool.{false_from_ne_true, false≢true}
use Rattle.cqf_units.specs.Name.{is_name}
use Rattle.cqf_topology.specs.DomainText.{IsDomain}
use Rattle.cqf_topology.proofs.Nodes.{node_named-other}
use Rattle.cqf_topology.proofs.domain.Domain.find.Goals as goal

pub returns-in-None : goal.returns-in-None
returns-in-None c =
    let form = c.in-None.ensures.form in
    let other : is_name c.as_bytes.result.now ≡ false = false_from_ne_true _ (λ is. false≢true (form.1 is)) in
    sym (node_named-other c.args.self.now (subst IsDomain c.self.view_is c.self.invariant) c.args.name.now (ap is_name (sym c.as_bytes.ensures.value) ∙ other))
