use Rattle.std.proofs.Common.{◌≡◌, ◌≤◌, ℕ, [], ◌∷◌, subst}
use Rattle.cqf_lists.proofs.Members.{contains_one}
use Rattle.cqf_lists.proofs.Pairs.{pairs_one}
use Rattle.cqf_model.specs.declared.frames.Backed.{Backed}
use Rattle.cqf_model.specs.Domain.{Domain}
use Rattle.cqf_bridge.specs.BridgeState.{AreBackedOf, IsBackedOf}
use Rattle.cqf_test_bridges.proofs.calls.send.Goals as goal

-- one background frame is in order
one_backed : (d e : Domain) (bridge number cycle : ℕ) (x : Backed) → d ≡ e → bridge ≡ number → IsBackedOf d bridge cycle x → AreBackedOf e number cycle (x ∷ [])
one_backed d e bridge number cycle x same_domain same_number is =
    let there = subst (λ (f : Domain). IsBackedOf f number cycle x) same_domain (subst (λ (n : ℕ). IsBackedOf d n cycle x) same_number is) in
    record {
      each = λ y in_list. subst (IsBackedOf e number cycle) (contains_one x y in_list) there;
      in_order = pairs_one (λ (a b : Backed). a.background.at.0 ≤ b.background.at.0) x;
    }

pub send-requires-in-Some-clause-frames : goal.send-requires-in-Some-clause-frames
send-requires-in-Some-clause-frames c =
    let b = c.args.bridge.now in
    one_backed c.domain.result.now b.domain c.number.result b.number c.args.cycle.0 (record { frame = 1; background = c.in-Some.background })
    c.domain.ensures.value c.number.ensures (c.is_backed_of.ensures c.if-not-is_backed_of.false 1)
