-- The origins of the drops at a bridge in a cycle.
use Rattle.std.proofs.Common.{◌≡◌, ℕ, List, true, refl, filter}
use Rattle.std.specs.Prelude.{Contains}
use Rattle.std.specs.List.{flat_map}
use Rattle.cqf_lists.proofs.EachBelow.{contains_from_below}
use Rattle.cqf_lists.proofs.Members.{contains_from_filter, contains_from_flat, contains_none, contains_one}
use Rattle.cqf_model.specs.declared.frames.Dropped.{Dropped}
use Rattle.cqf_model.specs.declared.frames.Reason.{Reason}
use Rattle.cqf_model.specs.Book.{drop_by, drops_in, is_of_index}
use Rattle.cqf_model.specs.Domain.{Domain}
use Rattle.cqf_model.specs.Policing.{DroppedFor, ExceedsGate, LacksRow, Policed, Queued, Received, Verdict}

-- the drop of a frame for a reason
abbrev pub drop_for : ℕ → ℕ → Received → Reason → Dropped
drop_for cycle bridge x reason = record { cycle = record { 0 = cycle }; bridge = bridge; frame = x.frame; octets = x.octets; reason = reason }

-- the drop of a verdict is that for its reason
pub dropped_for : (cycle bridge : ℕ) (x : Received) (v : Verdict) (drop : Dropped) → Contains (drop_by cycle bridge x v) drop → (reason : Reason) ×
    (v ≡ DroppedFor reason) × (drop_for cycle bridge x reason ≡ drop)
dropped_for cycle bridge x (DroppedFor reason) drop h = (reason, refl, contains_one (drop_for cycle bridge x reason) drop h)
dropped_for cycle bridge x (Queued row) drop h = absurd (contains_none drop h)
dropped_for cycle bridge x LacksRow drop h = absurd (contains_none drop h)
dropped_for cycle bridge x ExceedsGate drop h = absurd (contains_none drop h)

-- the drops at a bridge in a cycle of the offer at an index
abbrev pub drops_at : Domain → (ℕ → List Policed) → ℕ → ℕ → ℕ → List Dropped
drops_at d policed cycle bridge index =
    flat_map (λ (p : Policed). drop_by cycle bridge p.received p.verdict) (filter (is_of_index d cycle index) (policed bridge))

-- the origin of a drop at a bridge in a cycle
pub record IsDroppedAt (d : Domain) (policed : ℕ → List Policed) (cycle bridge : ℕ) (drop : Dropped) : Type 0 where
  pub p : Policed
  pub inside : Contains (policed bridge) p
  pub index : ℕ
  pub of_index : is_of_index d cycle index p ≡ true
  pub reason : Reason
  pub verdict : p.verdict ≡ DroppedFor reason
  pub is : drop_for cycle bridge p.received reason ≡ drop

-- each drop has such an origin
pub dropped_at : (d : Domain) (indices : ℕ) (policed : ℕ → List Policed) (cycle bridge : ℕ) (drop : Dropped) →
    Contains (drops_in d indices policed cycle bridge) drop → IsDroppedAt d policed cycle bridge drop
dropped_at d indices policed cycle bridge drop h =
    let v = contains_from_below (drops_at d policed cycle bridge) indices drop h in
    let w = contains_from_flat (λ (p : Policed). drop_by cycle bridge p.received p.verdict) (filter (is_of_index d cycle v.0) (policed bridge)) drop v.2 in
    let kept = contains_from_filter (is_of_index d cycle v.0) (policed bridge) w.0 w.1 in
    let f = dropped_for cycle bridge w.0.received w.0.verdict drop w.2 in
    record { p = w.0; inside = kept.0; index = v.0; of_index = kept.1; reason = f.0; verdict = f.1; is = f.2 }
