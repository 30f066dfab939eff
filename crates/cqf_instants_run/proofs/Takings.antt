-- The ports may take what they are given.
use Rattle.std.proofs.Common.{inl, inr, ◌≡◌, ℕ, ◌*◌, ◌^◌, ◌<◌, ◌≤◌, ◌==◌, ◌++◌, ◌∷◌, [], All, AllPairs, Contains, List}
use Rattle.std.proofs.Common.{arith, sym, ap, ◌∙◌, subst, length, get_or, map, filter, eqb-true, mul-le-mul_right}
use Rattle.std.specs.Prelude.{Bool, true, false, if◌then◌else◌, ◌%◌}
use Rattle.std.specs.List.{enumerate_from}
use Rattle.std.proofs.lemmas.List.Elements.{All-contains, Contains-append_cases, Contains-get_or}
use Rattle.std.proofs.lemmas.List.Kept.{AllPairs-filter}
use Rattle.cqf_lists.proofs.EachBelow.{contains_from_below}
use Rattle.cqf_lists.proofs.Members.{all_from_members, contains_from_filter, contains_from_map}
use Rattle.cqf_lists.proofs.Pairs.{pairs_append, pairs_below, pairs_map, pairs_members, pairs_none, pairs_weaker}
use Rattle.cqf_model.specs.declared.frames.Backed.{Backed}
use Rattle.cqf_model.specs.declared.frames.Background.{Background}
use Rattle.cqf_model.specs.declared.frames.Sent.{Sent}
use Rattle.cqf_model.specs.declared.frames.Started.{Started}
use Rattle.cqf_model.specs.declared.ports.Arrival.{Arrival}
use Rattle.cqf_model.specs.Book.{starts_of}
use Rattle.cqf_model.specs.Domain.{Domain, IsAccepted, cycle_of}
use Rattle.cqf_model.specs.Network.{numbered_background}
use Rattle.cqf_model.specs.Port.{no_arrival}
use Rattle.cqf_model.specs.Run.{AreBackground, IsBackground}
use Rattle.cqf_model.specs.Policing.{Carried}
use Rattle.cqf_laws_cycle.specs.Compiled.{open_class}
use Rattle.cqf_port.specs.PortState.{AreTaken}
use Rattle.cqf_laws_shift.proofs.Came.{placed_member}
use Rattle.cqf_instants_run.specs.Feeding.{AreFed, arrival_of_frame, arrival_of_sent, fed, frames_fed_on, is_frame_on, streams_fed_on}
use Rattle.cqf_instants_run.specs.Frames.{by_instant, is_at}
use Rattle.cqf_laws_coverage.proofs.InTurn.{IsInTurn}
use Rattle.cqf_instants_run.proofs.Carried.{streams_are}

-- an end of a run is early
pub end_early : (cycles n : ℕ) → cycles < 2 ^ 32 → n ≤ 10000000 → cycles * n < 2 ^ 62
end_early cycles n few short =
    let many : cycles ≤ 4294967296 = omega (arith, few) in
    let most : cycles * n ≤ 4294967296 * n = mul-le-mul_right n many in
    omega (arith, most, short)

-- the class of an arrival, and its instant
pub record IsGiven (low high : ℕ) (a : Arrival) : Type 0 where
  pub from : low ≤ a.class
  pub below : a.class < high
  pub early : a.at.0 < 2 ^ 62

-- a port may take these arrivals
taken : (xs : List Arrival) → ((a : Arrival) → Contains xs a → IsGiven 0 8 a) → AllPairs (λ (a b : Arrival). a.class ≡ b.class → a.at.0 ≤ b.at.0) xs
    → AreTaken xs
taken xs each pairs = record {
  classes = λ p inside. (each (get_or xs p no_arrival) (Contains-get_or xs p no_arrival inside)).below;
  early = λ p inside. (each (get_or xs p no_arrival) (Contains-get_or xs p no_arrival inside)).early;
  by_class = λ p q less inside same. pairs p q no_arrival less inside same;
}

-- and background frames in order, followed by streams' frames in order
both_taken : (xs ys : List Arrival) → ((a : Arrival) → Contains xs a → IsGiven 0 6 a) → ((a : Arrival) → Contains ys a → IsGiven 6 8 a) →
    AllPairs (λ (a b : Arrival). a.at.0 ≤ b.at.0) xs → AllPairs (λ (a b : Arrival). a.at.0 ≤ b.at.0) ys → AreTaken (fed xs ys)
both_taken [] ys low high first second =
    taken [] (λ a c. absurd (omega (arith, c.1))) (pairs_none (λ (a b : Arrival). a.class ≡ b.class → a.at.0 ≤ b.at.0))
both_taken (x ∷ xs) ys low high first second = taken (x ∷ xs ++ ys) each
    (pairs_append (λ (a b : Arrival). a.class ≡ b.class → a.at.0 ≤ b.at.0) (x ∷ xs) ys
    (pairs_weaker (λ (a b : Arrival). a.at.0 ≤ b.at.0) (λ (a b : Arrival). a.class ≡ b.class → a.at.0 ≤ b.at.0) (x ∷ xs) (λ a b c e le same. le) first)
    (pairs_weaker (λ (a b : Arrival). a.at.0 ≤ b.at.0) (λ (a b : Arrival). a.class ≡ b.class → a.at.0 ≤ b.at.0) ys (λ a b c e le same. le) second)
    (λ a b c e same. absurd (omega (arith, (low a c).below, (high b e).from, same))))
  where
    -- each arrival is of one of eight classes, and early
    each : (a : Arrival) → Contains (x ∷ xs ++ ys) a → IsGiven 0 8 a
    each a c = elim (Contains-append_cases (x ∷ xs) ys a c) [
      | inl front ↦ let g = low a front in record { from = omega arith; below = omega (arith, g.below); early = g.early }
      | inr rest ↦ let g = high a rest in record { from = omega arith; below = g.below; early = g.early }
    ]

-- the class that a cycle sends is one of streams
sent_class : (cycle : ℕ) → (6 ≤ open_class cycle) × (open_class cycle < 8)
sent_class cycle = either (cycle % 2 == 0)
  where
    -- 6 and 7 are such classes
    either : (b : Bool) → (6 ≤ (if b then 7 else 6)) × ((if b then 7 else 6) < 8)
    either true = (omega arith, omega arith)
    either false = (omega arith, omega arith)

-- a background frame of a run by instant is allowed, and has its instant
pub of_background : (d : Domain) (background : List Background) (end : ℕ) (x : Backed) → AreBackground d background → Contains (by_instant background end) x →
    IsBackground d x.background
of_background d background end x following c =
    let t = contains_from_below (λ t. filter (is_at t) (numbered_background background)) end x c in
    let kept = contains_from_filter (is_at t.0) (numbered_background background) x t.2 in
    let placed = contains_from_map the_backed (enumerate_from 1 background) x kept.0 in
    let member = placed_member 1 background placed.0.0 placed.0.1 placed.1 in
    subst (λ (z : Backed). IsBackground d z.background) placed.2 (All-contains (IsBackground d) background placed.0.1 following member.0)
  where
    -- a background frame with its number
    the_backed : ℕ × Background → Backed
    the_backed y = record { frame = y.0; background = y.1 }

-- they are in order
in_order : (background : List Background) (end : ℕ) → AllPairs (λ (a b : Backed). a.background.at.0 ≤ b.background.at.0) (by_instant background end)
in_order background end =
    pairs_below (λ (a b : Backed). a.background.at.0 ≤ b.background.at.0) at end
    (λ t less. pairs_members (λ (a b : Backed). a.background.at.0 ≤ b.background.at.0) (at t) (λ x y c e. omega (arith, when t x c, when t y e)))
    (λ j k x y less below c e. omega (arith, when j x c, when k y e, less))
  where
    -- those of an instant
    at : ℕ → List Backed
    at t = filter (is_at t) (numbered_background background)

    -- and that is their instant
    when : (t : ℕ) (x : Backed) → Contains (at t) x → x.background.at.0 ≡ t
    when t x c = eqb-true x.background.at.0 t (contains_from_filter (is_at t) (numbered_background background) x c).1

module _ (d : Domain) (cycles : ℕ) (carried : Carried) (background : List Background) (frames : List Backed) (accepted : IsAccepted d)
    (soon : cycles * d.cycle_time < 2 ^ 62) (in_turn : IsInTurn d cycles carried) (following : AreBackground d background)
    (by : frames ≡ by_instant background (cycles * d.cycle_time)) where
  -- each background frame of a link
  frame_given : (l : ℕ) (a : Arrival) → Contains (frames_fed_on l frames) a → IsGiven 0 6 a
  frame_given l a c =
      let m = contains_from_map arrival_of_frame (filter (is_frame_on l) frames) a c in
      let kept = contains_from_filter (is_frame_on l) frames m.0 m.1 in
      let is = of_background d background (cycles * d.cycle_time) m.0 following (subst (λ z. Contains z m.0) by kept.0) in
      subst (IsGiven 0 6) m.2 (record { from = omega arith; below = omega (arith, is.class_most); early = omega (arith, is.early) })

  -- each stream's frame
  stream_given : (l : ℕ) (a : Arrival) → Contains (map (arrival_of_sent d) (carried l)) a → IsGiven 6 8 a
  stream_given l a c =
      let m = contains_from_map (arrival_of_sent d) (carried l) a c in
      let class = sent_class (cycle_of d m.0.start.0) in
      subst (IsGiven 6 8) m.2 (record { from = class.0; below = class.1; early = omega (arith, in_turn.before_end l m.0 m.1, soon) })

  -- the background frames of a link are in order
  frames_in_order : (l : ℕ) → AllPairs (λ (a b : Arrival). a.at.0 ≤ b.at.0) (frames_fed_on l frames)
  frames_in_order l =
      pairs_map (λ (a b : Arrival). a.at.0 ≤ b.at.0) arrival_of_frame (filter (is_frame_on l) frames)
      (AllPairs-filter (λ (a b : Backed). a.background.at.0 ≤ b.background.at.0) (is_frame_on l) frames
      (subst (λ z. AllPairs (λ (a b : Backed). a.background.at.0 ≤ b.background.at.0) z) (sym by) (in_order background (cycles * d.cycle_time))))

  -- and so are its streams' frames
  streams_in_order : (l : ℕ) → l < length d.links → AllPairs (λ (a b : Arrival). a.at.0 ≤ b.at.0) (map (arrival_of_sent d) (carried l))
  streams_in_order l is_link =
      pairs_map (λ (a b : Arrival). a.at.0 ≤ b.at.0) (arrival_of_sent d) (carried l)
      (pairs_weaker (λ (a b : Sent). a.start.0 < b.start.0) (λ (a b : Sent). a.start.0 ≤ b.start.0) (carried l) (λ a b c e less. omega (arith, less))
      (in_turn.in_order l is_link))

  -- so a link's port may take both
  pub may_take : (l : ℕ) → l < length d.links → AreTaken (fed (frames_fed_on l frames) (map (arrival_of_sent d) (carried l)))
  may_take l is_link =
      both_taken (frames_fed_on l frames) (map (arrival_of_sent d) (carried l)) (frame_given l) (stream_given l) (frames_in_order l)
      (streams_in_order l is_link)

-- so a port may take what it is given in a history's run
pub all_taken : (d : Domain) (cycles : ℕ) (carried : Carried) (starts : List Started) (background : List Background) (frames : List Backed)
    (lists : List (List Arrival)) → IsAccepted d → cycles < 2 ^ 32 → IsInTurn d cycles carried → starts ≡ starts_of d cycles carried →
    AreBackground d background → frames ≡ by_instant background (cycles * d.cycle_time) → AreFed frames starts (length d.links) lists →
    (l : ℕ) → l < length lists → AreTaken (get_or lists l [])
all_taken d cycles carried starts background frames lists accepted few in_turn are following by given l inside =
    let is_link : l < length d.links = omega (arith, inside, given.one_each) in
    let some : 0 < d.cycle_time = omega (arith, accepted.cycle_least) in
    let streams : streams_fed_on l starts ≡ map (arrival_of_sent d) (carried l) =
    ap (streams_fed_on l) are ∙ streams_are d cycles carried some in_turn l is_link in
    let is : get_or lists l [] ≡ fed (frames_fed_on l frames) (map (arrival_of_sent d) (carried l)) =
    given.each l [] is_link ∙ ap (fed (frames_fed_on l frames)) streams in
    subst AreTaken (sym is)
    (may_take d cycles carried background frames accepted (end_early cycles d.cycle_time few accepted.cycle_most) in_turn following by l is_link)

-- each background frame is on a link of the domain
pub frames_on_links : (d : Domain) (background : List Background) (end links : ℕ) (frames : List Backed) → AreBackground d background →
    frames ≡ by_instant background end → links ≡ length d.links → All (λ (x : Backed). x.background.link < links) frames
frames_on_links d background end links frames following by same = all_from_members (λ (x : Backed). x.background.link < links) frames (λ x c.
    omega (arith, (of_background d background end x following (subst (λ z. Contains z x) by c)).on_link, same))
