-- What streams offer keeps their talkers' promises.
use Rattle.std.proofs.Common.{◌≡◌, ◌∙◌, ℕ, zero, suc, ◌+◌, ◌-◌, ◌*◌, ◌/◌, ◌%◌, ◌^◌, ◌==◌, ◌&&◌, ◌<◌, ◌≤◌, ◌++◌, ◌∷◌, [], Bool, true, false, List, Option, Some, None}
use Rattle.std.proofs.Common.{◌⊎◌, Contains, ap, append-nil, arith, bit_xor, div-add-mod', filter, get_or, inl, inr, length, ltb-true, mul-le-mul_right, nat_lt, refl, slice_get, subst, sym}
use Rattle.std.specs.List.Sorted.{IsNonDecreasingBy}
use Rattle.std.proofs.lemmas.Bool.{cases_Bool, cases_lt, cond-false, cond-true}
use Rattle.std.proofs.lemmas.List.{length-append}
use Rattle.std.proofs.lemmas.List.Elements.{filter-append}
use Rattle.std.proofs.lemmas.List.Kept.{IsNonDecreasingBy-filter}
use Rattle.std.proofs.lemmas.Nat.{or_lt}
use Rattle.std.proofs.lemmas.Option.{slice_get-get_or, slice_get_within}
use Rattle.std.proofs.Math.Bool.{and_comm}
use Rattle.std.proofs.Math.Nat.{add-mul, add-mul-mod_self_right, div-le_self, le-max_left, le-max_right, max-le, mod-lt, suc-mul, zero-mul}
use Rattle.rand_pcg.specs.Lcg.{Lcg}
use Rattle.rand_pcg.specs.Pcg.{pcg32}
use Rattle.cqf_lists.specs.Lists.{each_below}
use Rattle.cqf_lists.proofs.EachBelow.{contains_from_below, filter_below, filter_each, filter_none, filter_twice, length-singles, same_below}
use Rattle.cqf_lists.proofs.Filters.{filter_alike}
use Rattle.cqf_lists.proofs.Keys.{by_key}
use Rattle.cqf_lists.proofs.Members.{all_from_members, contains_at, contains_from_filter, contains_none, contains_one, index_of_member}
use Rattle.cqf_lists.proofs.Made.{contains_if}
use Rattle.cqf_lists.proofs.Indices.{slice_get_parts}
use Rattle.cqf_units.proofs.Cycles.{cycle_below, cycle_is, cycles_ordered}
use Rattle.cqf_model.specs.declared.frames.Offer.{Offer}
use Rattle.cqf_model.specs.Domain.{is_text}
use Rattle.cqf_model.proofs.Texts.{is_text_itself, is_text_same}
use Rattle.cqf_laws_timing.specs.Traffic.{BlocksConform, Conforms, ConformsByBlocks, IsTraffic, SkippingConforms, offers_named}
use Rattle.cqf_traffic.specs.TrafficText.{IsTrafficText, TrafficText, promise_of}
use Rattle.cqf_traffic.specs.declared.senders.TalkerStream.{TalkerStream}
use Rattle.cqf_traffic.specs.Conforming.{AreNamedApart, OffersComeInActiveCycles, OffersConform}
use Rattle.cqf_traffic.specs.Offering.{block_before, block_of, blocks_before, frame_of, in_order, late_by, offers_before, on_grid, reached, sent_by}
use Rattle.cqf_traffic.specs.Offering.{sent_from, sent_with, words_after, words_of}

-- ---- when blocks come

-- a word of the generator has 32 bits
word_small : (g : Lcg) → (pcg32 g).0 < 4294967296
word_small g =
    let n = bit_xor (g.state / 2 ^ 18) g.state / 2 ^ 27 % 2 ^ 32 in
    let by = g.state / 2 ^ 59 in
    let few : n < 2 ^ 32 = mod-lt (bit_xor (g.state / 2 ^ 18) g.state / 2 ^ 27) (omega arith) in
    let less : n / 2 ^ (by % 32) ≤ n = div-le_self n (2 ^ (by % 32)) in
    or_lt 32 (n / 2 ^ (by % 32)) (n * 2 ^ ((32 - by % 32) % 32) % 2 ^ 32) (omega (arith, less, few))
    (mod-lt (n * 2 ^ ((32 - by % 32) % 32)) (omega arith))

-- a share of all words below 2^32 is a share of the numbers up to the jitter
part_most : (word jitter : ℕ) → word < 4294967296 → word * (jitter + 1) / 4294967296 ≤ jitter
part_most word jitter few =
    let most : word * (jitter + 1) ≤ 4294967295 * (jitter + 1) = mul-le-mul_right (jitter + 1) (omega (arith, few)) in
    let below : word * (jitter + 1) / 4294967296 < jitter + 1 =
    cycle_below 4294967296 (word * (jitter + 1)) (jitter + 1) (omega (arith, most)) in
    omega (arith, below)

-- so no block is later than the jitter
late_most : (jitter : ℕ) (words : Option Lcg) → late_by jitter words ≤ jitter
late_most jitter None = omega arith
late_most jitter (Some g) = part_most (pcg32 g).0 jitter (word_small g)

module _ (t : TrafficText) (words : Option Lcg) where
  -- a block comes no earlier than on the grid
  on_late : (i : ℕ) → on_grid t i ≤ reached t words (suc i)
  on_late i = omega (arith, le-max_right (reached t words i) (on_grid t i + late_by t.jitter (words_after words i)))

  -- it is late by at most the jitter
  reached_most : (i : ℕ) → reached t words (suc i) ≤ on_grid t i + t.jitter
  reached_most zero = max-le (omega arith) (omega (arith, late_most t.jitter words))
  reached_most (suc i) = max-le (omega (arith, reached_most i, mul-le-mul_right t.interval (one_on i)))
      (omega (arith, late_most t.jitter (words_after words (suc i))))
    where
      one_on : (i : ℕ) → i ≤ suc i
      one_on i = omega arith

  -- it isn't earlier than those before it
  rises : (i k : ℕ) → i ≤ k → reached t words i ≤ reached t words k
  rises zero zero order = omega arith
  rises (suc i) zero order = absurd (omega (arith, order))
  rises i (suc k) order = elim (cases_le i k order) [
    | inl e ↦ subst (λ n. reached t words i ≤ reached t words n) e (omega arith)
    | inr l ↦ omega (arith, rises i k l, le-max_left (reached t words k) (on_grid t k + late_by t.jitter (words_after words k)))
  ]
    where
      -- the last, or one before it
      cases_le : (i k : ℕ) → i ≤ suc k → (i ≡ suc k) ⊎ (i ≤ k)
      cases_le i k order = elim (cases_lt i (suc k)) [ inl l ↦ inr (omega (arith, l)) | inr g ↦ inl (omega (arith, g, order)) ]

-- ---- copies by blocks

module _ {X : Type 0} (g : ℕ → X) (frames : ℕ) where
  -- copies of one element, and copies of each element
  copies : ℕ → List X
  copies b = each_below (λ _. g b ∷ []) frames

  -- their number
  copies_length : (n : ℕ) → length (each_below (λ b. each_below (λ _. g b ∷ []) frames) n) ≡ n * frames
  copies_length zero = sym (zero-mul frames)
  copies_length (suc n) =
      let more = length-append (each_below (λ b. each_below (λ _. g b ∷ []) frames) n) (each_below (λ _. g n ∷ []) frames) in
      let each = length-singles (λ _. g n) frames in
      let before = copies_length n in
      omega (arith, more, each, before, suc-mul n frames)

  -- the element at an index is a copy of the one of its block
  copy_at : 0 < frames → (n i : ℕ) (a : X) → slice_get (each_below (λ b. each_below (λ _. g b ∷ []) frames) n) i ≡ Some a → a ≡ g (i / frames)
  copy_at some zero i a e = absurd cc
  copy_at some (suc n) i a e =
      elim (slice_get_parts (each_below (λ b. each_below (λ _. g b ∷ []) frames) n) (each_below (λ _. g n ∷ []) frames) i a e) [
        | inl before ↦ copy_at some n i a before
        | inr here ↦
            let inside : here.0 < frames =
            omega (arith, slice_get_within (each_below (λ _. g n ∷ []) frames) here.0 a here.2, length-singles (λ _. g n) frames) in
            let index : i ≡ n * frames + here.0 = omega (arith, here.1, copies_length n) in
            let block : i / frames ≡ n = cycle_is frames n i (omega (arith, index)) (omega (arith, index, inside)) in
            let from = contains_from_below (λ _. g n ∷ []) frames a (contains_at (each_below (λ _. g n ∷ []) frames) here.0 a here.2) in
            sym (contains_one (g n) a from.2) ∙ ap g (sym block)
      ]

-- ---- one stream

-- an element among copies of one is that one
copied_once : {X : Type 0} (x y : X) (n : ℕ) → Contains (each_below (λ _. x ∷ []) n) y → x ≡ y
copied_once x y n c = contains_one x y (contains_from_below (λ _. x ∷ []) n y c).2

module _ (until : ℕ) (sender : TalkerStream) (t : TrafficText) (words : Option Lcg) where
  -- whether a frame comes in time
  abbrev early : Offer → Bool
  early x = nat_lt x.at.0 until

  -- the frame of each block, and all frames of the blocks on the grid, including late ones
  abbrev frame_at : ℕ → Offer
  frame_at block = frame_of sender t (reached t words (suc block))

  abbrev all_frames : List Offer
  all_frames = each_below (λ block. each_below (λ _. frame_at block ∷ []) t.frames) (blocks_before until t)

  -- of a block's frames all are early, or none is
  early_block : (at : ℕ) → filter early (block_of sender t at) ≡ block_before until sender t at
  early_block at = elim (cases_Bool (nat_lt at until)) [
    | inl yes' ↦
        filter_each early (block_of sender t at) (λ x c. subst (λ (y : Offer). early y ≡ true) (copied_once (frame_of sender t at) x t.frames c) yes')
        ∙ sym (cond-true (nat_lt at until) (block_of sender t at) [] yes')
    | inr no' ↦
        filter_none early (block_of sender t at) (λ x c. subst (λ (y : Offer). early y ≡ false) (copied_once (frame_of sender t at) x t.frames c) no')
        ∙ sym (cond-false (nat_lt at until) (block_of sender t at) [] no')
  ]

  -- so what is offered is what is early of all frames
  sent_is_early : sent_with until sender words (Some t) ≡ filter early all_frames
  sent_is_early =
      same_below (λ block. block_before until sender t (reached t words (suc block))) (λ block. filter early (each_below (λ _. frame_at block ∷ []) t.frames))
      (blocks_before until t) (λ block l. sym (early_block (reached t words (suc block))))
      ∙ sym (filter_below early (λ block. each_below (λ _. frame_at block ∷ []) t.frames) (blocks_before until t))

  module _ (ranges : IsTrafficText t) where
    some_frames : 0 < t.frames
    some_frames = omega (arith, ranges.frames.least)

    -- the promise is of some frames in some time
    is_traffic : IsTraffic (promise_of t)
    is_traffic = record { some_interval = omega (arith, ranges.interval.least); some_frames = omega (arith, ranges.frames.least) }

    -- the element at an index is the frame of its block
    stands : (i : ℕ) (a : Offer) → slice_get all_frames i ≡ Some a → a ≡ frame_at (i / t.frames)
    stands i a e = copy_at frame_at t.frames some_frames (blocks_before until t) i a e

    -- block by block, all frames keep the promise
    apart : (i k : ℕ) (a b : Offer) → i ≤ k → slice_get all_frames i ≡ Some a → slice_get all_frames k ≡ Some b →
        a.at.0 + (k / t.frames - i / t.frames) * t.interval ≤ b.at.0 + t.jitter
    apart i k a b order e f =
        let first = i / t.frames in
        let last = k / t.frames in
        let up : first ≤ last = cycles_ordered t.frames i k some_frames order in
        let from : a.at.0 ≡ reached t words (suc first) = ap (λ (x : Offer). x.at.0) (stands i a e) in
        let to : b.at.0 ≡ reached t words (suc last) = ap (λ (x : Offer). x.at.0) (stands k b f) in
        let whole : first * t.interval + (last - first) * t.interval ≡ last * t.interval =
        sym (add-mul first (last - first) t.interval) ∙ ap (λ n. n * t.interval) (omega (arith, up)) in
        omega (arith, from, to, whole, reached_most t words first, on_late t words last)

    by_blocks : ConformsByBlocks (promise_of t) all_frames
    by_blocks = record {
      sizes = all_from_members (λ (x : Offer). x.octets ≤ t.size) all_frames (λ x c.
          let index = index_of_member all_frames x c in
          omega (arith, ap (λ (y : Offer). y.octets) (stands index.0 x index.1)));
      spaced = apart;
    }

    -- so does what is early of them
    sent_conforms : BlocksConform → SkippingConforms → Conforms (promise_of t) (sent_with until sender words (Some t))
    sent_conforms blocks skips =
        subst (λ (xs : List Offer). Conforms (promise_of t) xs) (sym sent_is_early)
        (skips (promise_of t) all_frames early is_traffic (blocks (promise_of t) all_frames is_traffic by_blocks))

    -- all frames are in order of instant
    ascends : IsNonDecreasingBy (λ (x : Offer). x.at.0) all_frames
    ascends i k d order inside =
        let first = slice_get-get_or all_frames i d (omega (arith, order, inside)) in
        let second = slice_get-get_or all_frames k d inside in
        let from = ap (λ (x : Offer). x.at.0) (stands i (get_or all_frames i d) first) in
        let to = ap (λ (x : Offer). x.at.0) (stands k (get_or all_frames k d) second) in
        let up : i / t.frames ≤ k / t.frames = cycles_ordered t.frames i k some_frames order in
        omega (arith, from, to, rises t words (suc (i / t.frames)) (suc (k / t.frames)) (omega (arith, up)))

    -- so what is offered is in order of instant already
    sent_in_order : in_order until (sent_with until sender words (Some t)) ≡ sent_with until sender words (Some t)
    sent_in_order = subst (λ (xs : List Offer). in_order until xs ≡ xs) (sym sent_is_early)
        (sym (by_key (λ (x : Offer). x.at.0) until (filter early all_frames) (IsNonDecreasingBy-filter (λ (x : Offer). x.at.0) early all_frames ascends)
        (λ x c. ltb-true x.at.0 until (contains_from_filter early all_frames x c).1)))

-- ---- all streams

-- each frame has the name of its stream
sent_named : (until : ℕ) (sender : TalkerStream) (words : Option Lcg) (traffic : Option TrafficText) (x : Offer) →
    Contains (sent_with until sender words traffic) x → x.stream ≡ sender.name
sent_named until sender words None x c = absurd (contains_none x c)
sent_named until sender words (Some t) x c =
    let at : ℕ → ℕ = λ block. reached t words (suc block) in
    let block = contains_from_below (λ block. block_before until sender t (at block)) (blocks_before until t) x c in
    let here = contains_if (nat_lt (at block.0) until) (block_of sender t (at block.0)) x block.2 in
    ap (λ (y : Offer). y.stream) (sym (copied_once (frame_of sender t (at block.0)) x t.frames here))

-- whether a frame has a name
abbrev has_name : List ℕ → Offer → Bool
has_name name x = is_text name x.stream

module _ (until : ℕ) (seed : Option ℕ) (name : List ℕ) where
  -- a stream with the name has only such frames
  all_of_name : (n : ℕ) (s : TalkerStream) → s.name ≡ name → filter (has_name name) (sent_by until seed n s) ≡ sent_by until seed n s
  all_of_name n s same = filter_each (has_name name) (sent_by until seed n s) (λ x c.
      let is : name ≡ x.stream = sym same ∙ sym (sent_named until s (words_of seed n) s.traffic x c) in
      subst (λ (other : List ℕ). is_text name other ≡ true) is (is_text_itself name))

  -- a stream with another name has none
  none_of_name : (n : ℕ) (s : TalkerStream) → (s.name ≡ name → ⊥) → filter (has_name name) (sent_by until seed n s) ≡ []
  none_of_name n s differs = filter_none (has_name name) (sent_by until seed n s) (λ x c. elim (cases_Bool (has_name name x)) [
    | inl e ↦ absurd (differs (sym (sent_named until s (words_of seed n) s.traffic x c) ∙ sym (is_text_same name x.stream e)))
    | inr e ↦ e
  ])

  -- nor have streams with other names
  none_of_others : (n : ℕ) (senders : List TalkerStream) → ((i : ℕ) (a : TalkerStream) → slice_get senders i ≡ Some a → a.name ≡ name → ⊥) →
      filter (has_name name) (sent_from until seed n senders) ≡ []
  none_of_others n [] others = refl
  none_of_others n (s ∷ senders) others =
      filter-append (has_name name) (sent_by until seed n s) (sent_from until seed (n + 1) senders)
      ∙ (λ i. none_of_name n s (others 0 s refl) i ++ none_of_others (n + 1) senders (λ k a e. others (suc k) a e) i)

-- of all that is offered, what has a stream's name is what the stream offers
only_its_own : (until : ℕ) (seed : Option ℕ) (sender : TalkerStream) (n : ℕ) (senders : List TalkerStream) (k : ℕ) → AreNamedApart senders →
    slice_get senders k ≡ Some sender → (number : ℕ) × (filter (has_name sender.name) (sent_from until seed n senders) ≡ sent_by until seed number sender)
only_its_own until seed sender n [] k apart e = absurd cc
only_its_own until seed sender n (s ∷ senders) zero apart e =
    let is : s ≡ sender = cc in (
      n,
      filter-append (has_name sender.name) (sent_by until seed n s) (sent_from until seed (n + 1) senders)
          ∙ (λ i. all_of_name until seed sender.name n s (ap (λ (x : TalkerStream). x.name) is) i
          ++ none_of_others until seed sender.name (n + 1) senders
          (λ k a f same. apart 0 (suc k) s a (omega arith) refl f (ap (λ (x : TalkerStream). x.name) is ∙ sym same)) i)
          ∙ append-nil (sent_by until seed n s) ∙ ap (sent_by until seed n) is,
    )
only_its_own until seed sender n (s ∷ senders) (suc k) apart e =
    let rest = only_its_own until seed sender (n + 1) senders k (λ i j a b l f g. apart (suc i) (suc j) a b (omega (arith, l)) f g) e in (
      rest.0,
      filter-append (has_name sender.name) (sent_by until seed n s) (sent_from until seed (n + 1) senders)
          ∙ (λ i. none_of_name until seed sender.name n s (apart 0 (suc k) s sender (omega arith) refl e) i ++ rest.1 i),
    )

-- two filters commute
swapped : {X : Type 0} (p q : X → Bool) (xs : List X) → filter p (filter q xs) ≡ filter q (filter p xs)
swapped p q xs = filter_twice p q xs ∙ filter_alike (λ x. p x && q x) (λ x. q x && p x) xs (λ x c. and_comm (p x) (q x)) ∙ sym (filter_twice q p xs)

-- sorting by instant and selecting a name commute
named_in_order : (until : ℕ) (name : List ℕ) (sent : List Offer) → offers_named name (in_order until sent) ≡ in_order until (offers_named name sent)
named_in_order until name sent =
    filter_below (has_name name) (λ at. filter (λ (x : Offer). x.at.0 == at) sent) until
    ∙ same_below (λ at. filter (has_name name) (filter (λ (x : Offer). x.at.0 == at) sent)) (λ at. filter (λ (x : Offer). x.at.0 == at) (filter (has_name name) sent)) until
    (λ at l. swapped (has_name name) (λ (x : Offer). x.at.0 == at) sent)

-- so all that is offered of a stream keeps its talker's promise
pub offers_conform : BlocksConform → SkippingConforms → OffersConform
offers_conform blocks skips until seed senders sender t apart among is ranges =
    let index = index_of_member senders sender among in
    let own = only_its_own until seed sender 0 senders index.0 apart index.1 in
    let words = words_of seed own.0 in
    let with : sent_by until seed own.0 sender ≡ sent_with until sender words (Some t) = ap (λ traffic. sent_with until sender words traffic) is in
    let all : offers_named sender.name (offers_before until seed senders) ≡ sent_with until sender words (Some t) =
    named_in_order until sender.name (sent_from until seed 0 senders) ∙ ap (in_order until) (own.1 ∙ with) ∙ sent_in_order until sender t words ranges in
    subst (λ (xs : List Offer). Conforms (promise_of t) xs) (sym all) (sent_conforms until sender t words ranges blocks skips)

-- ---- the cycles of frames

-- if intervals are a multiple of `every` cycles long, and no frame is too late for its cycle, each comes in every `every`-th cycle
in_turn : (t : TrafficText) (cycle_time every sync block at : ℕ) → 0 < cycle_time → t.interval % (every * cycle_time) ≡ 0 →
    sync ≤ t.offset % cycle_time → t.offset % cycle_time + t.jitter + sync < cycle_time → on_grid t block ≤ at + sync →
    at ≤ on_grid t block + t.jitter + sync → at / cycle_time % every ≡ t.offset / cycle_time % every
in_turn t cycle_time every sync block at some whole after_start within from upto =
    let first : ℕ = t.offset / cycle_time in
    let times : ℕ = t.interval / (every * cycle_time) in
    let begins : t.offset ≡ first * cycle_time + t.offset % cycle_time = sym (div-add-mod' t.offset cycle_time) in
    let long : t.interval ≡ times * (every * cycle_time) = omega (arith, div-add-mod' t.interval (every * cycle_time), whole) in
    let following : block * t.interval ≡ block * times * every * cycle_time = omega (arith, ap (λ n. block * n) long) in
    let grid : t.offset + block * t.interval ≡ (first + block * times * every) * cycle_time + t.offset % cycle_time = omega (arith, begins, following) in
    ap (λ cycle. cycle % every)
    (cycle_is cycle_time (first + block * times * every) at (omega (arith, grid, from, after_start)) (omega (arith, grid, upto, within)))
    ∙ add-mul-mod_self_right first (block * times) every

-- so does each frame of a stream
sent_in_active_cycles : (until : ℕ) (sender : TalkerStream) (words : Option Lcg) (t : TrafficText) (cycle_time every sync : ℕ) → 0 < cycle_time →
    t.interval % (every * cycle_time) ≡ 0 → sync ≤ t.offset % cycle_time → t.offset % cycle_time + t.jitter + sync < cycle_time → (x : Offer) →
    Contains (sent_with until sender words (Some t)) x → (at : ℕ) → x.at.0 ≤ at + sync → at ≤ x.at.0 + sync →
    at / cycle_time % every ≡ t.offset / cycle_time % every
sent_in_active_cycles until sender words t cycle_time every sync some whole following within x c at no_sooner no_later =
    let by_talker : ℕ → ℕ = λ block. reached t words (suc block) in
    let block = contains_from_below (λ block. block_before until sender t (by_talker block)) (blocks_before until t) x c in
    let here = contains_if (nat_lt (by_talker block.0) until) (block_of sender t (by_talker block.0)) x block.2 in
    let comes : by_talker block.0 ≡ x.at.0 = ap (λ (y : Offer). y.at.0) (copied_once (frame_of sender t (by_talker block.0)) x t.frames here) in
    let late : on_grid t block.0 ≤ by_talker block.0 = on_late t words block.0 in
    let most : by_talker block.0 ≤ on_grid t block.0 + t.jitter = reached_most t words block.0 in
    in_turn t cycle_time every sync block.0 at some whole following within (omega (arith, comes, late, no_sooner)) (omega (arith, comes, most, no_later))

-- so does each frame of a stream among all that is offered
pub offers_come_in_active_cycles : OffersComeInActiveCycles
offers_come_in_active_cycles until seed senders sender t cycle_time every sync apart among is some more whole following within x c at no_sooner no_later =
    let index = index_of_member senders sender among in
    let own = only_its_own until seed sender 0 senders index.0 apart index.1 in
    let words = words_of seed own.0 in
    let sent : List Offer = sent_with until sender words (Some t) in
    let with : sent_by until seed own.0 sender ≡ sent = ap (λ traffic. sent_with until sender words traffic) is in
    let all : offers_named sender.name (offers_before until seed senders) ≡ in_order until sent =
    named_in_order until sender.name (sent_from until seed 0 senders) ∙ ap (in_order until) (own.1 ∙ with) in
    let by_instant = contains_from_below (λ n. filter (λ (y : Offer). y.at.0 == n) sent) until x (subst (λ (xs : List Offer). Contains xs x) all c) in
    let there = (contains_from_filter (λ (y : Offer). y.at.0 == by_instant.0) sent x by_instant.2).0 in
    sent_in_active_cycles until sender words t cycle_time every sync some whole following within x there at no_sooner no_later
