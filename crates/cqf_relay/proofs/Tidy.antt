-- The frames that a link is to hand on stay tidy, no matter what it sends.
use Rattle.std.proofs.Common.{◌≡◌, ℕ, zero, suc, ◌+◌, ◌-◌, ◌<◌, ◌≤◌, ◌++◌, List, [], ◌∷◌, length, map, get_or, min, All, sym, ap, ◌∙◌, arith, inl, inr, refl, subst, length-append}
use Rattle.std.proofs.lemmas.Bool.{cases_Bool, cases_lt}
use Rattle.std.proofs.lemmas.List.{get_or-append_right, get_or-map, get_or_append_left, length-map, map-append}
use Rattle.std.proofs.lemmas.List.Elements.{All-append, All-map, All-nil, All-weaker}
use Rattle.cqf_model.specs.declared.frames.Sent.{Sent}
use Rattle.cqf_relay.specs.declared.inlet.Inlet.{Inlet}
use Rattle.cqf_relay.specs.declared.log.ArrivedFrame.{ArrivedFrame}
use Rattle.cqf_relay.specs.declared.log.SourceLog.{SourceLog}
use Rattle.cqf_relay.specs.declared.moving.Segment.{Segment}
use Rattle.cqf_relay.specs.declared.moving.Moving.{Moving}
use Rattle.cqf_relay.specs.declared.outlet.Outlet.{Outlet}
use Rattle.cqf_relay.specs.declared.pending.Pending.{Pending}
use Rattle.cqf_relay.specs.declared.wire.Wire.{Wire}
use Rattle.cqf_relay.specs.Logs.{ByCycle, came_by_segment, cycle_of_came}
use Rattle.cqf_relay.specs.Sending.{IsTidy, KeepsSegmentBack, SendsCycles, SendsMore, SendsOneCycle, TakesPending, base_with, moving_on}

-- frames of one cycle, appended to others of cycles up to that one, are in order of cycle with them
by_cycle_after : (old new : List ArrivedFrame) (cycle : ℕ) → ByCycle old → All (λ (x : ArrivedFrame). x.cycle ≤ cycle) old → All (λ (x : ArrivedFrame). x.cycle ≡ cycle) new →
    ByCycle (old ++ new)
by_cycle_after old new cycle rises below same = λ i j d before inside.
    let many : length (old ++ new) ≡ length old + length new = length-append old new in
    elim (cases_lt j (length old)) [
      | inl first ↦
          let one : cycle_of_came (get_or (old ++ new) i d) ≡ cycle_of_came (get_or old i d) =
          ap cycle_of_came (get_or_append_left old new d i (omega (arith, before, first))) in
          let two : cycle_of_came (get_or (old ++ new) j d) ≡ cycle_of_came (get_or old j d) =
          ap cycle_of_came (get_or_append_left old new d j first) in
          let up : cycle_of_came (get_or old i d) ≤ cycle_of_came (get_or old j d) = rises i j d before first in
          omega (arith, one, two, up)
      | inr later ↦
          let two : cycle_of_came (get_or (old ++ new) j d) ≡ cycle =
          ap cycle_of_came (get_or-append_right old new (length old) j d refl later) ∙ same (j - length old) d (omega (arith, many, inside, later)) in
          elim (cases_lt i (length old)) [
            | inl first ↦
                let one : cycle_of_came (get_or (old ++ new) i d) ≡ cycle_of_came (get_or old i d) =
                ap cycle_of_came (get_or_append_left old new d i first) in
                let up : cycle_of_came (get_or old i d) ≤ cycle = below i d first in
                omega (arith, one, two, up)
            | inr second ↦
                let one : cycle_of_came (get_or (old ++ new) i d) ≡ cycle =
                ap cycle_of_came (get_or-append_right old new (length old) i d refl second)
                ∙ same (i - length old) d (omega (arith, many, inside, before, second)) in
                omega (arith, one, two)
          ]
    ]

-- a property of each image
all_of_map : {X Y : Type 0} (P : Y → Type 0) (f : X → Y) (xs : List X) → All P (map f xs) → All (λ (x : X). P (f x)) xs
all_of_map P f xs each = λ k d inside.
    subst P (get_or-map f xs k d (f d) inside) (each k (f d) (omega (arith, length-map xs f, inside)))

-- the cycle in which a frame that a link sends arrives, counted from a base, and the greatest cycle number
abbrev pub last_cycle : ℕ
last_cycle = 4294967295

abbrev pub coming_cycle : ℕ → ℕ → ℕ
coming_cycle base cycle = min (base + min (cycle - base) 65535) last_cycle

-- frames that are to be handed on, of a link that has sent and handed on up to these cycles
pub record ArePending (reported sent base : ℕ) (frames : List Moving) : Type 0 where
  pub by_cycle : ByCycle (map (came_by_segment base) frames)
  pub within : All (λ (came : ArrivedFrame). (reported ≤ came.cycle) × (came.cycle < sent)) (map (came_by_segment base) frames)
  pub counted : All (λ (moving : Moving). moving.after ≤ 65535) frames

-- what a link sends in its next cycle follows what it is to hand on
comes_after : (reported cycle base after : ℕ) → cycle ≤ last_cycle → reported ≤ min (base + after) last_cycle → min (base + after) last_cycle < cycle →
    after ≤ 65535 → (min (base + after) last_cycle ≤ coming_cycle base cycle) × (reported ≤ coming_cycle base cycle) × (coming_cycle base cycle < cycle + 1)
comes_after reported cycle base after early handed before few =
    (omega (arith, early, before, few), omega (arith, early, handed, before, few), omega (arith, early, before))

module _ (reported cycle base : ℕ) (frames : List Moving) (wire : Wire) (sents : List Sent) (are : ArePending reported cycle base frames) where
  -- so they are pending too
  more_pending : reported ≤ coming_cycle base cycle → coming_cycle base cycle < cycle + 1 →
      All (λ (x : ArrivedFrame). x.cycle ≤ coming_cycle base cycle) (map (came_by_segment base) frames) →
      ArePending reported (cycle + 1) base (frames ++ map (moving_on wire base cycle) sents)
  more_pending handed early below =
      let old = map (came_by_segment base) frames in
      let moving = map (moving_on wire base cycle) sents in
      let new = map (came_by_segment base) moving in
      let parts : map (came_by_segment base) (frames ++ moving) ≡ old ++ new = map-append (came_by_segment base) frames moving in
      let same : All (λ (x : ArrivedFrame). x.cycle ≡ coming_cycle base cycle) new =
      All-map (λ (x : ArrivedFrame). x.cycle ≡ coming_cycle base cycle) (came_by_segment base) moving
      (All-map (λ (x : Moving). (came_by_segment base x).cycle ≡ coming_cycle base cycle) (moving_on wire base cycle) sents (λ k d inside. refl)) in
      let Within : ArrivedFrame → Type 0 = λ came. (reported ≤ came.cycle) × (came.cycle < cycle + 1) in
      let few : All (λ (x : Moving). x.after ≤ 65535) moving =
      All-map (λ (x : Moving). x.after ≤ 65535) (moving_on wire base cycle) sents (λ k d inside. omega arith) in
      record {
        by_cycle = subst ByCycle (sym parts) (by_cycle_after old new (coming_cycle base cycle) are.by_cycle below same);
        within = subst (All Within) (sym parts) (All-append Within old new
            (All-weaker (λ (came : ArrivedFrame). (reported ≤ came.cycle) × (came.cycle < cycle)) Within (λ x held. (held.0, omega (arith, held.1))) old are.within)
            (All-weaker (λ (x : ArrivedFrame). x.cycle ≡ coming_cycle base cycle) Within (λ x is. (omega (arith, is, handed), omega (arith, is, early))) new same));
        counted = All-append (λ (x : Moving). x.after ≤ 65535) frames moving are.counted few;
      }

-- so they stay tidy, no matter what a link that ends in another bridge sends in its next cycle
pending_stay : (reported cycle base after : ℕ) (frames : List Moving) (wire : Wire) (sents : List Sent) → reported ≤ cycle → cycle ≤ last_cycle →
    after ≡ base_with frames base cycle sents → ArePending reported cycle base frames →
    ArePending reported (cycle + 1) after (frames ++ map (moving_on wire after cycle) sents)
pending_stay reported cycle base after [] wire [] handed early is are = record {
  by_cycle = λ i j d before inside. absurd (omega (arith, inside));
  within = All-nil (λ (came : ArrivedFrame). (reported ≤ came.cycle) × (came.cycle < cycle + 1));
  counted = All-nil (λ (x : Moving). x.after ≤ 65535);
}
pending_stay reported cycle base after [] wire (x ∷ sents) handed early is are =
    let none : ArePending reported cycle after [] = record {
      by_cycle = λ i j d before inside. absurd (omega (arith, inside));
      within = All-nil (λ (came : ArrivedFrame). (reported ≤ came.cycle) × (came.cycle < cycle));
      counted = All-nil (λ (x : Moving). x.after ≤ 65535);
    } in
    more_pending reported cycle after [] wire (x ∷ sents) none (omega (arith, is, handed, early)) (omega (arith, is, early))
    (All-nil (λ (x : ArrivedFrame). x.cycle ≤ coming_cycle after cycle))
pending_stay reported cycle base after (m ∷ frames) wire sents handed early is are =
    let same : after ≡ base = is ∙ base_of_some m frames base cycle sents in
    let each = all_of_map (λ (came : ArrivedFrame). (reported ≤ came.cycle) × (came.cycle < cycle)) (came_by_segment base) (m ∷ frames) are.within in
    let following = λ (k : ℕ) (d : Moving) (inside : k < length (m ∷ frames)).
    comes_after reported cycle base (get_or (m ∷ frames) k d).after early (each k d inside).0 (each k d inside).1 (are.counted k d inside) in
    let first = following 0 m (omega arith) in
    subst (λ (n : ℕ). ArePending reported (cycle + 1) n ((m ∷ frames) ++ map (moving_on wire n cycle) sents)) (sym same)
    (more_pending reported cycle base (m ∷ frames) wire sents are first.1 first.2
    (All-map (λ (x : ArrivedFrame). x.cycle ≤ coming_cycle base cycle) (came_by_segment base) (m ∷ frames) (λ k d inside. (following k d inside).0)))
  where
    base_of_some : (m : Moving) (frames : List Moving) (base cycle : ℕ) (sents : List Sent) → base_with (m ∷ frames) base cycle sents ≡ base
    base_of_some m frames base cycle [] = refl
    base_of_some m frames base cycle (x ∷ sents) = refl

-- if it ends in a station, nothing is added
pending_keep : (reported cycle base : ℕ) (frames : List Moving) → ArePending reported cycle base frames → ArePending reported (cycle + 1) base frames
pending_keep reported cycle base frames are = record {
  by_cycle = are.by_cycle;
  within = All-weaker (λ (came : ArrivedFrame). (reported ≤ came.cycle) × (came.cycle < cycle)) (λ (came : ArrivedFrame). (reported ≤ came.cycle) × (came.cycle < cycle + 1))
      (λ x held. (held.0, omega (arith, held.1))) (map (came_by_segment base) frames) are.within;
  counted = are.counted;
}

-- a tidy link has such frames
pending_of_tidy : (outlet : Outlet) → IsTidy outlet → ArePending outlet.reported outlet.sent outlet.pending.base outlet.pending.frames.items
pending_of_tidy outlet tidy = record { by_cycle = tidy.by_cycle; within = tidy.within; counted = tidy.counted }

-- so it stays tidy in one more cycle
pub tidy_one : (inlets : List Inlet) (edge : SourceLog) (before after : Outlet) → IsTidy before → SendsOneCycle inlets edge before after → IsTidy after
tidy_one inlets edge before after tidy sends =
    let early : before.sent ≤ last_cycle = omega (arith, sends.early) in
    let wire = before.wire in
    let frames = before.pending.frames.items in
    let old = pending_of_tidy before tidy in
    let new : ArePending before.reported (before.sent + 1) after.pending.base after.pending.frames.items =
    elim (cases_Bool wire.onward) [
      | inl onward ↦
          subst (ArePending before.reported (before.sent + 1) after.pending.base) (sym (sends.adds.pends onward))
          (pending_stay before.reported before.sent before.pending.base after.pending.base frames wire _ tidy.handed early (sends.adds.base onward) old)
      | inr ends ↦
          subst (λ (p : Pending). ArePending before.reported (before.sent + 1) p.base p.frames.items) (sym (sends.adds.ends ends))
          (pending_keep before.reported before.sent before.pending.base frames old)
    ] in
    let as_far : ArePending after.reported after.sent after.pending.base after.pending.frames.items =
    subst (λ (n : ℕ). ArePending n after.sent after.pending.base after.pending.frames.items) (sym sends.adds.reported)
    (subst (λ (n : ℕ). ArePending before.reported n after.pending.base after.pending.frames.items) (sym sends.as_far) new) in
    record {
      handed = omega (arith, tidy.handed, sends.adds.reported, sends.as_far);
      by_cycle = as_far.by_cycle;
      within = as_far.within;
      counted = as_far.counted;
    }

-- and in this many
pub tidy_more : (cycles : ℕ) (inlets : List Inlet) (edge : SourceLog) (before after : Outlet) → IsTidy before →
    SendsMore cycles inlets edge before after → IsTidy after
tidy_more zero inlets edge before after tidy same = subst IsTidy (sym same) tidy
tidy_more (suc cycles) inlets edge before after tidy sends =
    tidy_one inlets edge sends.0 after (tidy_more cycles inlets edge before sends.0 tidy sends.1) sends.2

-- a tidy link stays tidy up to any cycle
pub tidy_sends : (until : ℕ) (inlets : List Inlet) (edge : SourceLog) (before after : Outlet) → IsTidy before →
    SendsCycles until inlets edge before after → IsTidy after
tidy_sends until inlets edge before after tidy sends = tidy_more (until - before.sent) inlets edge before after tidy sends

-- a link with nothing to hand on is tidy
pub nothing_tidy : (outlet : Outlet) → outlet.reported ≤ outlet.sent → outlet.pending.frames.items ≡ [] → IsTidy outlet
nothing_tidy outlet handed none = record {
  handed = handed;
  counted = subst (All (λ (moving : Moving). moving.after ≤ 65535)) (sym none) (All-nil (λ (moving : Moving). moving.after ≤ 65535));
  by_cycle = subst (λ (frames : List Moving). ByCycle (map (came_by_segment outlet.pending.base) frames)) (sym none)
      (λ i j d before inside. absurd (omega (arith, inside)));
  within = subst
      (λ (frames : List Moving).
      All (λ (came : ArrivedFrame). (outlet.reported ≤ came.cycle) × (came.cycle < outlet.sent)) (map (came_by_segment outlet.pending.base) frames))
      (sym none) (All-nil (λ (came : ArrivedFrame). (outlet.reported ≤ came.cycle) × (came.cycle < outlet.sent)));
}

-- a link that has sent and handed on as far as a tidy one, and has the same to hand on, is tidy
pub same_tidy : (before after : Outlet) → after.reported ≡ before.reported → after.sent ≡ before.sent → after.pending.base ≡ before.pending.base →
    after.pending.frames.items ≡ before.pending.frames.items → IsTidy before → IsTidy after
same_tidy before after reported sent base frames tidy =
    let comes : map (came_by_segment after.pending.base) after.pending.frames.items ≡ map (came_by_segment before.pending.base) before.pending.frames.items =
    ap (λ (n : ℕ). map (came_by_segment n) after.pending.frames.items) base ∙ ap (map (came_by_segment before.pending.base)) frames in
    record {
      handed = omega (arith, reported, sent, tidy.handed);
      counted = subst (All (λ (moving : Moving). moving.after ≤ 65535)) (sym frames) tidy.counted;
      by_cycle = subst ByCycle (sym comes) tidy.by_cycle;
      within = subst (All (λ (came : ArrivedFrame). (after.reported ≤ came.cycle) × (came.cycle < after.sent))) (sym comes)
          (All-weaker (λ (came : ArrivedFrame). (before.reported ≤ came.cycle) × (came.cycle < before.sent))
          (λ (came : ArrivedFrame). (after.reported ≤ came.cycle) × (came.cycle < after.sent))
          (λ came held. (omega (arith, reported, held.0), omega (arith, sent, held.1)))
          (map (came_by_segment before.pending.base) before.pending.frames.items) tidy.within);
    }

-- a link that has handed on what it sent is tidy
pub hands_tidy : (before after : Outlet) (segment : Segment) → TakesPending before after segment → IsTidy after
hands_tidy before after segment takes = nothing_tidy after (omega (arith, takes.reported, takes.as_far)) takes.none

-- and one that takes back what it handed on is tidy if it was so before
pub back_tidy : (older before after : Outlet) (reported : ℕ) (segment : Segment) → TakesPending older before segment → KeepsSegmentBack reported segment before after →
    reported ≡ older.reported → IsTidy older → IsTidy after
back_tidy older before after reported segment takes keeps by_then =
    same_tidy older after (keeps.reported_by_then ∙ by_then) (keeps.as_far ∙ takes.as_far) (keeps.base ∙ takes.from) (keeps.frames ∙ takes.frames)
