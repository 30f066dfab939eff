-- A bridge that passes over cycles in which its ports start nothing.
use Rattle.std.proofs.Common.{◌≡◌, ◌+◌, ◌*◌, ◌<◌, ◌≤◌, ℕ, List, [], ◌++◌, ◌∙◌, inl, sym, ap, refl, arith, map, Contains, subst, mul-le-mul_right}
use Rattle.std.proofs.lemmas.Simd.{map-map}
use Rattle.cqf_lists.proofs.Members.{contains_from_map}
use Rattle.cqf_model.specs.declared.frames.Started.{Started}
use Rattle.cqf_model.specs.Port.{Transmission}
use Rattle.cqf_port.specs.PortState.{AreOnly, PortState, RunsUpTo}
use Rattle.cqf_bridge.specs.declared.cycle_gate.KeptGate.{KeptGate}
use Rattle.cqf_bridge.specs.PortRecord.{PortRecord}
use Rattle.cqf_bridge.specs.BridgeState.{BridgeState, IsBridge, IsInStep, end_of_cycle}
use Rattle.cqf_bridge.specs.Quiet.{IsQuiet, MayPass, passed, rested}
use Rattle.cqf_bridge.specs.Taking.{HasGates}

-- a port that runs to an instant before which it starts nothing rests
pub runs_quietly : (r : PortRecord) (after : PortState) (until : ℕ) → RunsUpTo until r.port after → AreOnly after → IsQuiet until r → after
    ≡ (rested until r).port
runs_quietly r after until runs only quiet =
    let following : List Transmission → PortState = λ starts. record { rules = r.port.rules; reached = until; arrivals = r.port.arrivals; starts = starts } in
    let here : AreOnly (following (r.port.starts ++ runs.made)) = subst AreOnly runs.value only in
    runs.value ∙ ap following (sym (here r.port.starts quiet))

module _ (b : BridgeState) (cycle : ℕ) (is : IsBridge b) (may : MayPass b cycle) where
  -- what arrives before the received cycles' end arrives before the end of the cycle
  no_later : b.received * b.domain.cycle_time ≤ end_of_cycle b.domain cycle
  no_later = let less : b.received ≤ cycle + 1 = omega (arith, may.ahead) in mul-le-mul_right b.domain.cycle_time less

  -- each port is before the end of the cycle
  pub rests_later : (r : PortRecord) → Contains b.ports r → r.port.reached < end_of_cycle b.domain cycle
  rests_later r held =
      let some : 10000 ≤ b.domain.cycle_time = is.accepted.cycle_least in
      let at = (is.in_step may.not_spent r held).reached ∙ ap (λ (n : ℕ). n * b.domain.cycle_time) may.turn in
      let less : b.received * b.domain.cycle_time ≤ cycle * b.domain.cycle_time = mul-le-mul_right b.domain.cycle_time may.ahead in
      omega (arith, at, less, some)

  -- a bridge that has passed over cycles satisfies the invariant
  pub bridge_passed : IsBridge (passed cycle b)
  bridge_passed = record {
    accepted = is.accepted;
    inside = is.inside;
    turn = inl refl;
    few = omega (arith, may.early);
    links = λ _. map-map (λ (r : PortRecord). r.link) (rested (end_of_cycle b.domain cycle)) b.ports ∙ is.links may.not_spent;
    in_step = λ _ r held.
        let f = contains_from_map (rested (end_of_cycle b.domain cycle)) b.ports r held in
        let step = is.in_step may.not_spent f.0 f.1 in
        let at = ap (λ (n : ℕ). n * b.domain.cycle_time) may.turn in
        subst (IsInStep b.domain (cycle + 1) (cycle + 1)) f.2
        (record {
          rules = step.rules;
          reached = refl;
          background = λ a here low. omega (arith, step.background a here low, at, no_later);
          of_streams = λ a here high. omega (arith, step.of_streams a here high, no_later);
        });
  }

  -- and its gates were called before the next cycle
  pub gates_passed : (gates : List KeptGate) → HasGates b gates → HasGates (passed cycle b) gates
  gates_passed gates has = record {
    bridge = bridge_passed;
    gates_kept = λ _ k held. omega (arith, has.gates_kept may.not_spent k held, may.ahead);
  }

-- a bridge whose ports have rested has passed over the cycles
pub passed_so : (b : BridgeState) (cycle end : ℕ) (ports : List PortRecord) (background : List Started) → MayPass b cycle → end ≡ end_of_cycle b.domain cycle →
    ports ≡ map (rested end) b.ports → background ≡ [] →
    record { domain = b.domain; number = b.number; sent = cycle + 1; received = cycle + 1; spent = b.spent; ports = ports; background = background }
    ≡ passed cycle b
passed_so b cycle end ports background may at are none =
    let rest : ports ≡ map (rested (end_of_cycle b.domain cycle)) b.ports = are ∙ ap (λ (n : ℕ). map (rested n) b.ports) at in
    λ i. record {
      domain = b.domain;
      number = b.number;
      sent = cycle + 1;
      received = cycle + 1;
      spent = may.not_spent i;
      ports = rest i;
      background = none i;
    }
