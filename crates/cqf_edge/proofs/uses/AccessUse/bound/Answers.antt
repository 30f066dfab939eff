use Rattle.std.proofs.Common.{◌∙◌, Option, ap, sym}
use Rattle.std.specs.Prelude.{option_map}
use Rattle.cqf_units.specs.declared.timing.Nanos.{Nanos}
use Rattle.cqf_edge.specs.Uses.{bound_by}
use Rattle.cqf_edge.proofs.Bounds.{found_is}
use Rattle.cqf_edge.proofs.uses.AccessUse.bound.Goals as goal

pub returns-in-Some-clause-value : goal.returns-in-Some-clause-value
returns-in-Some-clause-value c =
    sym (ap (λ (o : Option Nanos). bound_by (option_map (λ (t : Nanos). t.0) o)) c.in-Some.is)
    ∙ found_is c.args.link.now c.args.self.now.other c.octets_of-other.result c.as_slice-promises.result.now c.args.self.now.promises.items
    c.access_bound.result c.octets_of-other.ensures c.as_slice-promises.ensures.value (sym c.is_empty.ensures ∙ c.if-is_empty.false) c.access_bound.ensures

pub returns-in-None-clause-value : goal.returns-in-None-clause-value
returns-in-None-clause-value c =
    sym (ap (λ (o : Option Nanos). bound_by (option_map (λ (t : Nanos). t.0) o)) c.in-None.is)
    ∙ found_is c.args.link.now c.args.self.now.other c.octets_of-other.result c.as_slice-promises.result.now c.args.self.now.promises.items
    c.access_bound.result c.octets_of-other.ensures c.as_slice-promises.ensures.value (sym c.is_empty.ensures ∙ c.if-is_empty.false) c.access_bound.ensures
