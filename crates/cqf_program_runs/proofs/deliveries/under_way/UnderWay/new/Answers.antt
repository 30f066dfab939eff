use Rattle.std.proofs.Common.{◌∙◌, ℕ, List, Option, arith, length, refl, subst, sym}
use Rattle.std.proofs.lemmas.List.{length-map}
use Rattle.std.specs.Global.{Global}
use Rattle.std.specs.declared.vec.Vec.{Vec}
use Rattle.cqf_units.specs.declared.timing.Nanos.{Nanos}
use Rattle.cqf_model.specs.declared.topology.Row.{Row}
use Rattle.cqf_model.specs.Table.{residence}
use Rattle.cqf_program_plans.specs.Latency.Text.{listeners_of}
use Rattle.cqf_program_runs.specs.Deliveries.UnderWay.{AreEmptySlots, IsWideFor, slots_of}
use Rattle.cqf_program_runs.proofs.Greatest.{none_greater}
use Rattle.cqf_program_runs.proofs.deliveries.under_way.UnderWay.new.Goals as goal

pub returns : goal.returns
returns c =
    let d = c.args.domain.now in
    let rows = c.args.rows.now in
    let width = c.most_listeners-width.result in
    let slots : List (Vec (Option Nanos) Global) = c.in_ok-slots.slots.items in
    let many = sym (length-map slots (λ (slot : Vec (Option Nanos) Global). slot.items)) ∙ c.in_ok-slots.ensures.count in (
      refl,
      record {
        width = width;
        fresh = refl;
        hop_numbers = λ row among. omega (arith, none_greater residence rows 0 row among, c.greatest_hop_number-hop_number.ensures);
        room = λ row among. omega (arith, none_greater (λ (r : Row). length (listeners_of d r)) rows 0 row among, c.most_listeners-width.ensures);
        some = omega (arith, many, c.most_at_once-many.ensures.some);
        enough = subst (λ (n : ℕ). IsWideFor d.cycle_time c.greatest_hop_number-hop_number.result c.args.offers.now n) (sym many) c.most_at_once-many.ensures.enough;
        empty = subst (λ (n : ℕ). AreEmptySlots width n (slots_of slots)) (sym many) c.in_ok-slots.ensures;
      },
    )
