use Rattle.std.proofs.Common.{refl, subst}
use Rattle.std.specs.Arc.{arc_value}
use Rattle.cqf_model.specs.Domain.{Domain}
use Rattle.cqf_relay.specs.Standing.{AreNewInlets, AreNewOutlets}
use Rattle.cqf_relay.proofs.New.{new_stands, new_tidy}
use Rattle.cqf_relay.proofs.relay.Relay.new.Goals as goal

pub returns-clause-stands : goal.returns-clause-stands
returns-clause-stands c =
    let inlets = c.in_ok-new_inlets.field-0 in
    let outlets = c.in_ok-new_outlets.field-0 in
    new_stands (arc_value c.args.domain.now) (record {
      domain = c.in_ok-try_clone.field-0;
      number = c.args.number;
      cycles = c.args.cycles;
      tables = 0;
      inlets = inlets;
      edge = c.new.result;
      outlets = outlets;
      known = 0;
      queue = c.new-2.result;
    }) c.in_ok-try_clone.ensures refl
    (subst (λ (d : Domain). AreNewInlets d c.args.number inlets.items) c.deref.ensures c.in_ok-new_inlets.ensures)
    (subst (λ (d : Domain). AreNewOutlets d c.args.number outlets.items) c.deref-2.ensures c.in_ok-new_outlets.ensures)
    refl c.new.ensures.number c.new.ensures.used c.new.ensures.log

pub returns-clause-tidy : goal.returns-clause-tidy
returns-clause-tidy c = new_tidy c.deref-2.result.now c.args.number c.in_ok-new_outlets.field-0.items c.in_ok-new_outlets.ensures
