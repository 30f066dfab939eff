use Rattle.std.proofs.Common.{◌∙◌, List, Contains, ap, subst, sym}
use Rattle.cqf_lists.proofs.Members.{contains_none}
use Rattle.cqf_model.specs.Domain.{Domain}
use Rattle.cqf_agenda.specs.Links.{links_into}
use Rattle.cqf_bridge.specs.declared.cycle_gate.KeptGate.{KeptGate}
use Rattle.cqf_bridge.proofs.Bridges.{bridge_begins}
use Rattle.cqf_bridge.proofs.bridge.Bridge.new.Goals as goal

pub invariant_of-result : goal.invariant_of-result
invariant_of-result c =
    let same = c.in_ok-try_copy.ensures ∙ c.domain-2.ensures.value in
    record {
      has_gates = record {
        bridge = bridge_begins c.args.plan.now _ c.args.number _ _ c.domain.ensures.accepted c.requires same c.in_ok-ports_from.ensures;
        gates_kept = λ _ k held. absurd (contains_none k (subst (λ (gs : List KeptGate). Contains gs k) c.new.ensures held));
      };
      entering = c.in_ok-incoming.ensures ∙ ap (λ (d : Domain). links_into d c.args.number) (c.domain.ensures.value ∙ sym same);
    }
