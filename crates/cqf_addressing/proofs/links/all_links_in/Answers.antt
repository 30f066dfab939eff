use Rattle.std.proofs.Common.{◌∙◌, sym}
use Rattle.toml.specs.View.{items_view}
use Rattle.cqf_topology.specs.declared.toml_faults.TomlFault.TheVariants as toml_fault
use Rattle.cqf_topology.proofs.Refusals.{Gives-residual}
use Rattle.cqf_addressing.specs.declared.faults.AddressingFault.TheVariants as fault
use Rattle.cqf_addressing.proofs.After.{element_fault, element_read}
use Rattle.cqf_addressing.proofs.links.all_links_in.Goals as goal

pub returns-in_err-put_element : goal.returns-in_err-put_element
returns-in_err-put_element c =
    let e = c.in_err-put_element.field-0.0 in
    Gives-residual (fault.Text toml_fault.Memory) e (λ links. links.items) c.from_residual.result _ c.from_residual.ensures.1
    (λ other. sym c.loop-value.invariant
    ∙ element_fault (items_view c.args.stations.now) c.args.values.now c.loop-value.value-index c.value-item.result c.loop-value-test.true
    c.value-item.is c.loop-value.links.items e (c.in_err-put_element.ensures other))

pub loop-value-preserved : goal.loop-value-preserved
loop-value-preserved c =
    element_read (items_view c.args.stations.now) c.args.values.now c.loop-value.value-index c.value-item.result c.loop-value-test.true
    c.value-item.is c.loop-value.links.items c.put_element.new.links.items c.in_ok-put_element.ensures
    ∙ c.loop-value.invariant
