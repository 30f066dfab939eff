use Rattle.std.proofs.Common.{◌∙◌, [], List, Option, ap, length, refl, sym}
use Rattle.std.proofs.lemmas.List.{get_or-map}
use Rattle.std.specs.Global.{Global}
use Rattle.std.specs.declared.vec.Vec.{Vec}
use Rattle.cqf_units.specs.declared.timing.Nanos.{Nanos}
use Rattle.cqf_program_runs.specs.Deliveries.UnderWay.{slots_of}
use Rattle.cqf_program_runs.proofs.KeptSlots.{turned, turned_many}
use Rattle.cqf_program_runs.proofs.deliveries.under_way.UnderWay.go_on.Goals as goal

pub returns : goal.returns
returns c =
    let slots : List (Vec (Option Nanos) Global) = c.args.self.now.slots.items in
    let own : Vec (Option Nanos) Global = c.empty.new.slot in
    record {
      pass = refl;
      reported = refl;
      hop_number = refl;
      as_many = ap (λ (xs : List (Vec (Option Nanos) Global)). length xs) c.rotate_left.ensures.items ∙ turned_many slots own c.requires;
      emptied = own.items;
      as_wide = c.empty.ensures.as_many
          ∙ ap (λ (v : Vec (Option Nanos) Global). length v.items) c.index_mut.ensures.value
          ∙ ap (λ (items : List (Option Nanos)). length items) (sym (get_or-map (λ (v : Vec (Option Nanos) Global). v.items) slots 0 _ [] c.requires));
      none = c.empty.ensures.none;
      slots = ap slots_of c.rotate_left.ensures.items ∙ turned slots own c.requires;
    }
