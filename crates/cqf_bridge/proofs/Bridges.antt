-- A bridge from cycle to cycle.
use Rattle.std.proofs.Common.{◌≡◌, ◌+◌, ◌*◌, ◌<◌, ℕ, suc, List, [], ◌∷◌, ◌++◌, ◌∙◌, inl, inr, sym, ap, refl, arith}
use Rattle.std.proofs.Common.{length, map, filter, true, false, if◌then◌else◌, Contains, subst, append-nil}
use Rattle.std.specs.List.{zip}
use Rattle.std.proofs.Math.Seq.{drop-length}
use Rattle.std.proofs.lemmas.Bool.{cond-true, cond-false, true≢false}
use Rattle.std.proofs.lemmas.List.{map-append}
use Rattle.std.proofs.lemmas.List.Elements.{Contains-append_cases}
use Rattle.std.proofs.lemmas.Simd.{map-map}
use Rattle.std.proofs.lemmas.Slice.Zip.{firsts-zip}
use Rattle.cqf_lists.specs.Lists.{each_below}
use Rattle.cqf_lists.proofs.Members.{contains_from_filter, contains_from_map, contains_map, contains_none}
use Rattle.cqf_units.proofs.Cycles.{cycle_upto}
use Rattle.cqf_model.specs.declared.frames.Backed.{Backed}
use Rattle.cqf_model.specs.declared.frames.Started.{Started}
use Rattle.cqf_model.specs.declared.ports.Arrival.{Arrival}
use Rattle.cqf_model.specs.Domain.{Domain, IsAccepted, leaves}
use Rattle.cqf_model.specs.Network.{QueuedFrame, arrivals_of, backed_frame}
use Rattle.cqf_model.specs.Port.{Transmission}
use Rattle.cqf_laws_cycle.specs.Gathered.{is_for_link}
use Rattle.cqf_bridge.specs.declared.cycle_gate.KeptGate.{KeptGate}
use Rattle.cqf_bridge.specs.Batch.{LinkBatch}
use Rattle.cqf_bridge.specs.PortRecord.{PortRecord, new_record}
use Rattle.cqf_agenda.specs.Links.{links_from}
use Rattle.cqf_bridge.specs.BridgeState.{AreBackedOf, BridgeState, IsBridge, IsInStep, IsNextToSend, SendsCycle, backed_on, new_bridge, port_after}
use Rattle.cqf_bridge.specs.Sending.{FirstSend}
use Rattle.cqf_bridge.specs.Taking.{IsKept}

-- the state in a bridge's invariant
abbrev pub state_kept : {b : BridgeState} {gates : List KeptGate} {incoming : List ℕ} → IsKept b gates incoming → BridgeState
state_kept {b} {gates} {incoming} kept = b

-- an element of the first components of pairs
first_of_pair : {A B : Type 0} (xs : List A) (ys : List B) (p : A × B) → length ys ≡ length xs → Contains (zip xs ys) p → Contains xs p.0
first_of_pair {A} {B} xs ys p even held = subst (λ (zs : List A). Contains zs p.0) (firsts-zip xs ys even)
    (contains_map (λ (q : A × B). q.0) (zip xs ys) p held)

-- the ports of the links below one more
pub one_port_more : (d : Domain) (number link : ℕ) → leaves d link number ≡ true →
    map (new_record d) (each_below (λ l. if leaves d l number then l ∷ [] else []) link) ++ new_record d link ∷ []
    ≡ map (new_record d) (each_below (λ l. if leaves d l number then l ∷ [] else []) (suc link))
one_port_more d number link here =
    let so_far = each_below (λ l. if leaves d l number then l ∷ [] else []) link in
    sym (map-append (new_record d) so_far (link ∷ []))
    ∙ ap (λ (ls : List ℕ). map (new_record d) (so_far ++ ls)) (sym (cond-true (leaves d link number) (link ∷ []) [] here))

-- a link that leaves another bridge adds no port
pub no_port_more : (d : Domain) (number link : ℕ) → leaves d link number ≡ false →
    map (new_record d) (each_below (λ l. if leaves d l number then l ∷ [] else []) link)
    ≡ map (new_record d) (each_below (λ l. if leaves d l number then l ∷ [] else []) (suc link))
no_port_more d number link other =
    let so_far = each_below (λ l. if leaves d l number then l ∷ [] else []) link in
    ap (map (new_record d)) (sym (append-nil so_far) ∙ ap (λ (ls : List ℕ). so_far ++ ls) (sym (cond-false (leaves d link number) (link ∷ []) [] other)))

-- a bridge that has done nothing satisfies the invariant
pub bridge_begins : (d own : Domain) (number : ℕ) (ports : List PortRecord) (background : List Started) → IsAccepted d → number < length d.bridges →
    own ≡ d → ports ≡ (new_bridge d number).ports →
    IsBridge (record { domain = own; number = number; sent = 0; received = 0; spent = false; ports = ports; background = background })
bridge_begins d own number ports background accepted inside is_own are_ports =
    subst (λ (x : Domain). IsBridge (record { domain = x; number = number; sent = 0; received = 0; spent = false; ports = ports; background = background }))
    (sym is_own)
    (subst (λ (rs : List PortRecord). IsBridge (record {
      domain = d;
      number = number;
      sent = 0;
      received = 0;
      spent = false;
      ports = rs;
      background = background;
    })) (sym are_ports)
    (record {
      accepted = accepted;
      inside = inside;
      turn = inl refl;
      few = omega arith;
      links = λ _. map-map (λ (r : PortRecord). r.link) (new_record d) (links_from d number) ∙ same_links (links_from d number);
      in_step = λ _ r held.
          let f = contains_from_map (new_record d) (links_from d number) r held in
          subst (IsInStep d 0 0) f.2
          (record {
            rules = refl;
            reached = omega arith;
            background = λ a none low. absurd (contains_none a none);
            of_streams = λ a none high. absurd (contains_none a none);
          });
    }))
  where
    same_links : (ls : List ℕ) → map (λ (l : ℕ). l) ls ≡ ls
    same_links [] = refl
    same_links (l ∷ ls) = ap (λ (xs : List ℕ). l ∷ xs) (same_links ls)

module _ (b : BridgeState) (is : IsBridge b) (fresh : b.spent ≡ false) (cycle : ℕ) (next : IsNextToSend b cycle) (backed : List Backed)
    (frames : AreBackedOf b.domain b.number cycle backed) where
  -- its ports are in step to send the cycle
  pub ready_to_send : (r : PortRecord) → Contains b.ports r → IsInStep b.domain cycle cycle r
  ready_to_send r held =
      subst (λ (n : ℕ). IsInStep b.domain n cycle r) (next.1 ∙ sym next.0)
      (subst (λ (n : ℕ). IsInStep b.domain b.sent n r) (sym next.0) (is.in_step fresh r held))

  module _ (ports : List PortRecord) (given batches : List LinkBatch) (others : List Started)
      (h : FirstSend b.domain cycle backed (length b.ports) b.ports ports given batches [] others) where
    all_ports : ports ≡ map (port_after b.domain cycle backed) (zip b.ports h.made)
    all_ports = h.ports ∙ ap (λ (rs : List PortRecord). map (port_after b.domain cycle backed) (zip b.ports h.made) ++ rs) (drop-length b.ports)
        ∙ append-nil (map (port_after b.domain cycle backed) (zip b.ports h.made))

    -- a port after the cycle
    in_step_after : (p : PortRecord × List Transmission) → Contains (zip b.ports h.made) p →
        IsInStep b.domain (b.sent + 1) b.received (port_after b.domain cycle backed p)
    in_step_after p held =
        let r = p.0 in
        let before : IsInStep b.domain b.sent b.received r = is.in_step fresh r (first_of_pair b.ports h.made p h.one_each held) in
        record {
          rules = before.rules;
          reached = ap (λ (n : ℕ). (n + 1) * b.domain.cycle_time) (next.0 ∙ sym next.1);
          background = λ a here low. elim (Contains-append_cases r.port.arrivals (arrivals_of (backed_on r.link backed)) a here) [
            | inl old ↦ omega (arith, before.background a old low)
            | inr new ↦
                let f = contains_from_map (λ (y : QueuedFrame). y.arrival) (backed_on r.link backed) a new in
                let e = contains_from_map backed_frame (filter (is_for_link r.link) backed) f.0 f.1 in
                let y = contains_from_filter (is_for_link r.link) backed e.0 e.1 in
                let upto = cycle_upto b.domain.cycle_time e.0.background.at.0 (omega (arith, is.accepted.cycle_least)) in
                omega (
                  arith,
                  upto,
                  ap (λ (c : ℕ). c * b.domain.cycle_time) ((frames.each e.0 y.0).of_cycle ∙ next.0 ∙ sym next.1),
                  ap (λ (g : Arrival). g.at.0) f.2,
                  ap (λ (g : QueuedFrame). g.arrival.at.0) e.2,
                )
          ];
          of_streams = λ a here high. elim (Contains-append_cases r.port.arrivals (arrivals_of (backed_on r.link backed)) a here) [
            | inl old ↦ before.of_streams a old high
            | inr new ↦
                let f = contains_from_map (λ (y : QueuedFrame). y.arrival) (backed_on r.link backed) a new in
                let e = contains_from_map backed_frame (filter (is_for_link r.link) backed) f.0 f.1 in
                let y = contains_from_filter (is_for_link r.link) backed e.0 e.1 in
                absurd (omega (
                  arith,
                  high,
                  (frames.each e.0 y.0).good.class_most,
                  ap (λ (g : Arrival). g.class) f.2,
                  ap
                      (λ (g : QueuedFrame). g.arrival.class) e.2,
                ))
          ];
        }

    abbrev following : BridgeState
    following = record {
      domain = b.domain;
      number = b.number;
      sent = b.sent + 1;
      received = b.received;
      spent = b.spent;
      ports = ports;
      background = others;
    }

    -- it satisfies the invariant again
    pub bridge_after : cycle < 100000 → IsBridge following
    bridge_after early = record {
      accepted = is.accepted;
      inside = is.inside;
      turn = inr (ap (λ (n : ℕ). n + 1) next.1);
      few = omega (arith, early, next.0, next.1);
      links = λ _.
          ap (map (λ (r : PortRecord). r.link)) all_ports
          ∙ map-map (λ (r : PortRecord). r.link) (port_after b.domain cycle backed) (zip b.ports h.made)
          ∙ sym (map-map (λ (r : PortRecord). r.link) (λ (p : PortRecord × List Transmission). p.0) (zip b.ports h.made))
          ∙ ap (map (λ (r : PortRecord). r.link)) (firsts-zip b.ports h.made h.one_each)
          ∙ is.links fresh;
      in_step = λ _ r held.
          let f = contains_from_map (port_after b.domain cycle backed) (zip b.ports h.made) r (subst (λ (rs : List PortRecord). Contains rs r) all_ports held)
          in
          subst (IsInStep b.domain (b.sent + 1) b.received) f.2 (in_step_after f.0 f.1);
    }

    -- and has sent the cycle
    pub cycle_sent : SendsCycle b following cycle backed given batches
    cycle_sent = record {
      made = h.made;
      one_each = h.one_each;
      demanded = h.demanded;
      bridge = λ i. record {
        domain = b.domain;
        number = b.number;
        sent = b.sent + 1;
        received = b.received;
        spent = fresh i;
        ports = all_ports i;
        background = h.others i;
      };
      batches = h.batches;
    }

-- a spent bridge satisfies the invariant
pub bridge_spent : (b : BridgeState) (ports : List PortRecord) → IsBridge b → IsBridge (record b { spent = true; ports = ports })
bridge_spent b ports is = record {
  accepted = is.accepted;
  inside = is.inside;
  turn = is.turn;
  few = is.few;
  links = λ never. absurd (true≢false never);
  in_step = λ never. absurd (true≢false never);
}
