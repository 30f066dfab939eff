-- Frames that are gathered, and brought into order.
use Rattle.std.proofs.Common.{◌≡◌, ◌+◌, ◌<◌, ◌==◌, ℕ, List, [], ◌∷◌, ◌++◌, ◌∙◌, sym, ap, refl, arith, length, map, take, get_or, append_assoc}
use Rattle.std.specs.List.Sorted.{IsNonDecreasingBy, IsStableByKey}
use Rattle.std.specs.Ordering.{nat_cmp}
use Rattle.std.proofs.lemmas.List.{get_or-map, length-map, map-append, take_more}
use Rattle.cqf_lists.proofs.Filters.{filter-map}
use Rattle.cqf_lists.proofs.Sorted.{stable_at}
use Rattle.cqf_model.specs.declared.frames.Dropped.{Dropped}
use Rattle.cqf_model.specs.declared.frames.Reason.TheVariants.{Unknown}
use Rattle.cqf_model.specs.Policing.{Received}
use Rattle.cqf_laws_cycle.specs.Gathered.{IsInOrderOf}
use Rattle.cqf_bridge.specs.declared.gathering.Came.TheVariants.{ByLink}
use Rattle.cqf_bridge.specs.declared.gathering.Incoming.{Incoming}
use Rattle.cqf_bridge.specs.Taking.{received_as}

module _ {X : Type 0} (key : X → ℕ) (probe : ℕ → X) (probes : (t : ℕ) → key (probe t) ≡ t) where
  -- a stable sort by a key brings into order
  pub brought_in_order : (xs ys : List X) → IsNonDecreasingBy key ys → IsStableByKey key nat_cmp xs ys → IsInOrderOf key xs ys
  brought_in_order xs ys up stable = record {
    in_order = up;
    stable = λ t. stable_at key probe probes xs ys t stable;
  }

-- a list in order stays in order when its elements are mapped
pub mapped_in_order : {X Y : Type 0} (f : X → Y) (key : Y → ℕ) (xs ys : List X) (d : X) → IsInOrderOf (λ (x : X). key (f x)) xs ys →
    IsInOrderOf key (map f xs) (map f ys)
mapped_in_order {X} {Y} f key xs ys d h = record {
  in_order = λ i j z le less.
      let below : j < length ys = omega (arith, less, length-map ys f) in
      let lower = get_or-map f ys i d z (omega (arith, le, below)) in
      let upper = get_or-map f ys j d z below in
      omega (arith, h.in_order i j d le below, ap key lower, ap key upper);
  stable = λ k. filter-map f (λ (y : Y). key y == k) ys ∙ ap (map f) (h.stable k) ∙ sym (filter-map f (λ (y : Y). key y == k) xs);
}

-- the instant of a frame that arrives
abbrev pub instant_of_frame : Incoming → ℕ
instant_of_frame x = x.at.0

-- a drop's frame
abbrev pub frame_of_drop : Dropped → ℕ
frame_of_drop x = x.frame

-- a frame at a given instant
pub at_instant : ℕ → Incoming
at_instant t = record { at = record { 0 = t }; octets = 0; frame = 0; came = ByLink 0 0 }

-- each instant is that of some frame
pub at_instants : (t : ℕ) → instant_of_frame (at_instant t) ≡ t
unfolding at_instant
at_instants t = refl

-- a drop of a given frame number
pub of_frame : ℕ → Dropped
of_frame n = record { cycle = record { 0 = 0 }; bridge = 0; frame = n; octets = 0; reason = Unknown }

-- each number is that of the frame of some drop
pub of_frames : (n : ℕ) → frame_of_drop (of_frame n) ≡ n
unfolding of_frame
of_frames n = refl

-- one more frame is gathered
pub gathered_more : {X : Type 0} (f : X → Received) (xs : List X) (count : ℕ) (d : X) (front : List Received) (list after : List Incoming) (new : Incoming) →
    count < length xs → received_as new ≡ f (get_or xs count d) → after ≡ list ++ new ∷ [] →
    map received_as list ≡ front ++ map f (take count xs) → map received_as after ≡ front ++ map f (take (count + 1) xs)
gathered_more {X} f xs count d front list after new inside is more before =
    ap (map received_as) more ∙ map-append received_as list (new ∷ [])
    ∙ (λ i. before i ++ is i ∷ [])
    ∙ append_assoc front (map f (take count xs)) (f (get_or xs count d) ∷ [])
    ∙ ap (λ (ys : List Received). front ++ ys) (sym (map-append f (take count xs) (get_or xs count d ∷ [])) ∙ ap (map f) (sym (take_more xs count d inside)))
