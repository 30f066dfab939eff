use Rattle.std.proofs.Common.{◌∙◌, ap, arith, eqb-true, length, subst, sym}
use Rattle.cqf_model.specs.declared.ports.Arrival.{Arrival}
use Rattle.cqf_lists.specs.ByNumber.{AddsTo, lists_of}
use Rattle.cqf_instants_run.proofs.Feeds.{AddsStart-none, AddsStart-some, some_in}
use Rattle.cqf_instants_run.proofs.feeding.put_start.Goals as goal

-- if nothing is given, it is skipped
pub returns-then-is_empty : goal.returns-then-is_empty
returns-then-is_empty c =
    AddsStart-none c.args.lists.now.items c.from.result c.index.result.now _ c.args.start.now c.from.ensures (omega (arith, c.requires, c.from.ensures))
    c.index.ensures (ap length (sym c.as_slice.ensures.value) ∙ eqb-true (length c.as_slice.result.now) 0 (sym c.is_empty.ensures ∙ c.if-is_empty.true))

-- else it is appended
pub returns : goal.returns
returns c =
    AddsStart-some c.args.lists.now.items (lists_of c.put_arrival.new.lists.items) c.from.result c.index.result.now _ c.args.start.now c.from.ensures
    (omega (arith, c.requires, c.from.ensures)) c.index.ensures
    (omega (arith, ap length c.as_slice.ensures.value, some_in (length c.as_slice.result.now) (sym c.is_empty.ensures ∙ c.if-is_empty.false)))
    (subst (λ (a : Arrival). AddsTo (lists_of c.args.lists.now.items) (lists_of c.put_arrival.new.lists.items) c.args.start.now.link a)
    c.arrival_of_start.ensures c.in_ok-put_arrival.ensures)
