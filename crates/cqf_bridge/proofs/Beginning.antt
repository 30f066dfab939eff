-- A bridge before its first cycle, and the background frames that it is given.
use Rattle.std.proofs.Common.{◌≡◌, ℕ, ◌+◌, ◌*◌, ◌<◌, ◌≤◌, true, List, [], ◌∷◌, ◌==◌, length, filter, ap, refl, ◌∙◌, inl, inr, arith, subst, Contains, eqb-true}
use Rattle.std.specs.List.{enumerate_from}
use Rattle.std.proofs.lemmas.Bool.{and_parts}
use Rattle.std.proofs.lemmas.List.{map-id}
use Rattle.std.proofs.lemmas.Simd.{map-map}
use Rattle.cqf_lists.proofs.EachBelow.{contains_from_below}
use Rattle.cqf_lists.proofs.Members.{contains_cases, contains_from_filter, contains_from_map, contains_here, contains_later, contains_none}
use Rattle.cqf_lists.proofs.Pairs.{pairs_below, pairs_members, pairs_none}
use Rattle.cqf_units.proofs.Cycles.{cycle_is}
use Rattle.cqf_model.specs.declared.frames.Backed.{Backed}
use Rattle.cqf_model.specs.declared.frames.Background.{Background}
use Rattle.cqf_model.specs.Domain.{Domain, leaves}
use Rattle.cqf_model.specs.Network.{Network, comes_before, numbered_background}
use Rattle.cqf_model.specs.Port.{AreLegal, PortRules, Transmission}
use Rattle.cqf_model.specs.Run.{AreBackground, IsBackground, Run}
use Rattle.cqf_laws_cycle.specs.Gathered.{backed_for, is_backed_for}
use Rattle.cqf_agenda.specs.Links.{links_from}
use Rattle.cqf_bridge.specs.BridgeState.{AreBackedOf, new_bridge}
use Rattle.cqf_bridge.specs.PortRecord.{PortRecord, new_record, rules_on}
use Rattle.cqf_bridge.specs.Follows.{FollowsTheNetwork, HasTaken}

-- if nothing arrived, no starts are legal up to instant 0
none_legal : (rules : PortRules) (end : ℕ) → end ≡ 0 → AreLegal rules [] end []
none_legal rules end first = record {
  in_order = pairs_none (λ (a b : Transmission). a.1 < b.1);
  before_end = λ index s h. absurd (contains_none (index, s) h);
  once = λ index s t h k. absurd (contains_none (index, s) h);
  idle = λ index s h. absurd (contains_none (index, s) h);
  first = λ index s h. absurd (contains_none (index, s) h);
  eligible = λ index s h. absurd (contains_none (index, s) h);
  strict_priority = λ index s other h. absurd (contains_none (index, s) h);
  work_conserving = λ t other before idle waits eligible. absurd (omega (arith, before, first));
}

-- a port with nothing recorded has what arrived before cycle 0
new_port : (run : Run) (net : Network) (link : ℕ) →
    HasTaken run.domain (0 * run.domain.cycle_time) (comes_before run net.carried link 0) (new_record run.domain link)
new_port run net link = record {
  rules = refl;
  reached = omega arith;
  arrivals = refl;
  streams = refl;
  legal = none_legal (rules_on run.domain link) (0 * run.domain.cycle_time) (omega arith);
}

-- a bridge that has done nothing follows the network
pub new_follows : (run : Run) (net : Network) (number : ℕ) → number < length run.domain.bridges →
    FollowsTheNetwork run net (new_bridge run.domain number)
new_follows run net number inside = record {
  of_run = record {
    domain = refl;
    inside = inside;
    not_spent = refl;
    links = map-map (λ (r : PortRecord). r.link) (new_record run.domain) (links_from run.domain number) ∙ map-id (links_from run.domain number);
  };
  turn = refl;
  ports = λ r held. (let f = contains_from_map (new_record run.domain) (links_from run.domain number) r held in
      subst (λ (p : PortRecord). HasTaken run.domain (0 * run.domain.cycle_time) (comes_before run net.carried p.link 0) p) f.2 (new_port run net f.0));
}

-- a numbered element is one of the list
of_numbered : {X : Type 0} (n : ℕ) (xs : List X) (p : ℕ × X) → Contains (enumerate_from n xs) p → Contains xs p.1
of_numbered n [] p h = absurd (contains_none p h)
of_numbered {X} n (x ∷ xs) p h = elim (contains_cases (n, x) (enumerate_from (n + 1) xs) p h) [
  | inl e ↦ subst (λ (y : X). Contains (x ∷ xs) y) (ap (λ (q : ℕ × X). q.1) e) (contains_here x xs)
  | inr k ↦ contains_later x xs p.1 (of_numbered (n + 1) xs p k)
]

-- a numbered background frame is one of the run's
is_of_run : (d : Domain) (background : List Background) (x : Backed) → AreBackground d background → Contains (numbered_background background) x →
    IsBackground d x.background
is_of_run d background x good h =
    let w = contains_from_map (λ (p : ℕ × Background). record { frame = p.0; background = p.1 }) (enumerate_from 1 background) x h in
    let k = of_numbered 1 background w.0 w.1 in
    subst (λ (y : Background). IsBackground d y) (k.2 ∙ ap (λ (y : Backed). y.background) w.2) (good k.0 w.0.1 k.1)

module _ (d : Domain) (background : List Background) (bridge cycle : ℕ) where
  -- the background frames at an instant of the cycle
  abbrev at_offset : ℕ → List Backed
  at_offset offset = filter (is_backed_for d bridge (cycle * d.cycle_time + offset)) (numbered_background background)

  -- arrive then on a link that leaves the bridge
  of_offset : (offset : ℕ) (x : Backed) → Contains (at_offset offset) x →
      (leaves d x.background.link bridge ≡ true) × (x.background.at.0 ≡ cycle * d.cycle_time + offset)
  of_offset offset x h =
      let t = cycle * d.cycle_time + offset in
      let k = contains_from_filter (is_backed_for d bridge t) (numbered_background background) x h in
      let parts = and_parts (leaves d x.background.link bridge) (x.background.at.0 == t) k.1 in
      (parts.0, eqb-true x.background.at.0 t parts.1)

  -- the background frames of a bridge in a cycle are of it
  pub backed_is_of_bridge : AreBackground d background → AreBackedOf d bridge cycle (backed_for d background bridge cycle)
  backed_is_of_bridge good =
      let earlier = λ (a b : Backed). a.background.at.0 ≤ b.background.at.0 in
      record {
        each = λ x h. (let w = contains_from_below at_offset d.cycle_time x h in
            let of = of_offset w.0 x w.2 in
            let k = contains_from_filter (is_backed_for d bridge (cycle * d.cycle_time + w.0)) (numbered_background background) x w.2 in
            record {
              good = is_of_run d background x good k.0;
              here = of.0;
              of_cycle = cycle_is d.cycle_time cycle x.background.at.0 (omega (arith, of.1)) (omega (arith, of.1, w.1));
            });
        in_order = pairs_below earlier at_offset d.cycle_time
            (λ offset below. pairs_members earlier (at_offset offset) (λ x y hx hy. omega (arith, (of_offset offset x hx).1, (of_offset offset y hy).1)))
            (λ i j x y less below hx hy. omega (arith, less, (of_offset i x hx).1, (of_offset j y hy).1));
      }
