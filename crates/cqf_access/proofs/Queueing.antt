-- What is handed over within the bound, from an idle instant on, takes at most the bound.
use Rattle.std.proofs.Common.{◌≡◌, ℕ, ◌+◌, ◌-◌, ◌*◌, ◌<◌, ◌≤◌, ◌∷◌, [], ◌&&◌, ◌⊎◌, List, Bool, true, false, inl, inr, ap, sym, ◌∙◌, arith, Contains, sum_by}
use Rattle.std.proofs.Common.{if◌then◌else◌, filter, length, nat_le, nat_lt, mul-le-mul_right, le-leb, lt-ltb}
use Rattle.std.proofs.lemmas.Bool.{cases_Bool, cases_lt, cond-true}
use Rattle.std.proofs.lemmas.List.Elements.{All-contains}
use Rattle.std.proofs.lemmas.List.Sums.{sum_by-le}
use Rattle.cqf_lists.proofs.EachBelow.{contains_from_below}
use Rattle.cqf_lists.proofs.Members.{all_from_members, contains_filter, contains_from_filter, contains_map, contains_one}
use Rattle.cqf_lists.proofs.Sums.{double, sum_filter, sum_grouped, sum_le_members, sum_map, sum_member}
use Rattle.cqf_units.proofs.Times.{time_grows}
use Rattle.cqf_model.specs.declared.frames.Offer.{Offer}
use Rattle.cqf_laws_timing.specs.Traffic.{SkippingConforms, Traffic, most_frames}
use Rattle.cqf_access.specs.Access.{AccessLink, AccessLinkBoundsQueueing, AccessStream, Crossing, IsBound, IsSent, Other, handed, promises_of}
use Rattle.cqf_access.specs.Access.{taken_by_other, taken_of, taken_within}
use Rattle.cqf_access.proofs.Windows.{ahead_few, ahead_handed, ahead_in, few_handed, gained, handed_in, is_ahead, is_of, on, on_one, past, past_few, past_many, seen, seen_few, ups}
use Rattle.cqf_access.proofs.Busy.{IsCovered, IsLastIdle, covered_until, last_idle, left_until, over_when_idle, stop_of, takes}

-- when a frame starts: after the frames of its own stream that were handed over since an instant and started before it, if other streams
-- take no more than the bound leaves them
pub record IsAfterOwn (link : AccessLink) (time at : ℕ) (s : AccessStream) (x : Crossing) : Type 0 where
  pub few : length (ahead_in at time x.start s) + 1 ≤ most_frames time s.promise
  pub early : x.start < at + time
  pub starts : x.start + taken_within link time s.promise ≤ at + time + length (ahead_in at time x.start s) * taken_of link s.promise.size

module _ (skips : SkippingConforms) (link : AccessLink) (streams : List AccessStream) (others : List Other) (sent : IsSent link streams others) where
  -- a stream's frames are at most as large as it promises
  pub no_larger : (s : AccessStream) (x : Crossing) → Contains streams s → Contains s.crossings x → x.frame.octets ≤ s.promise.size
  no_larger s x c k = All-contains (λ (y : Offer). y.octets ≤ s.promise.size) (handed s) x.frame (sent.kept s c).sizes
      (contains_map (λ (y : Crossing). y.frame) s.crossings x k)

  pub takes_no_more : (s : AccessStream) (x : Crossing) → Contains streams s → Contains s.crossings x → taken_of link x.frame.octets ≤ taken_of link s.promise.size
  takes_no_more s x c k = time_grows (x.frame.octets + 20) (s.promise.size + 20) link.octet_time (omega (arith, no_larger s x c k))

  -- the number of instants of a span at which a frame is under way
  abbrev here : ℕ → ℕ → Crossing → ℕ
  here a n x = seen a n x.start (stop_of link x)

  here_few : (a n : ℕ) (s : AccessStream) (x : Crossing) → Contains streams s → Contains s.crossings x → here a n x ≤ taken_of link s.promise.size
  here_few a n s x c k =
      let few = (seen_few a n x.start (stop_of link x)).1 in
      let long : stop_of link x ≡ x.start + taken_of link x.frame.octets = omega arith in
      omega (arith, few, long, takes_no_more s x c k)

  -- the same for the frames of a stream that are handed over in a window
  abbrev inner : ℕ → ℕ → ℕ → AccessStream → ℕ
  inner a n time s = sum_by (λ (x : Crossing). here a n x) (handed_in a time s)

  largest_few : (a time : ℕ) (s : AccessStream) → Contains streams s →
      sum_by (λ (x : Crossing). taken_of link s.promise.size) (handed_in a time s) ≤ taken_within link time s.promise
  largest_few a time s c =
      let size = taken_of link s.promise.size in
      let within = sum_by-le (λ (x : Crossing). size) size (handed_in a time s)
      (all_from_members (λ (x : Crossing). size ≤ size) (handed_in a time s) (λ x k. omega arith)) in
      let few = few_handed skips a time s (sent.promised s c) (sent.kept s c) in
      omega (arith, within, mul-le-mul_right size few)

  of_stream : (a time : ℕ) (s : AccessStream) (x : Crossing) → Contains (handed_in a time s) x → Contains s.crossings x
  of_stream a time s x k = (contains_from_filter (λ (y : Crossing). is_of a time y.frame.at.0) s.crossings x k).0

  inner_more : (a n time g : ℕ) (s : AccessStream) (x : Crossing) → Contains streams s → Contains (handed_in a time s) x →
      here a n x + g ≤ taken_of link s.promise.size → inner a n time s + g ≤ taken_within link time s.promise
  inner_more a n time g s x c k room =
      let more = gained (λ (y : Crossing). here a n y) (λ (y : Crossing). taken_of link s.promise.size) g (handed_in a time s) x
      (λ y l. here_few a n s y c (of_stream a time s y l)) k room in
      omega (arith, more, largest_few a time s c)

  inner_few : (a n time : ℕ) (s : AccessStream) → Contains streams s → inner a n time s ≤ taken_within link time s.promise
  inner_few a n time s c =
      let less = sum_le_members (λ (y : Crossing). here a n y) (λ (y : Crossing). taken_of link s.promise.size) (handed_in a time s)
      (λ y l. here_few a n s y c (of_stream a time s y l)) in
      omega (arith, less, largest_few a time s c)

  -- a frame that is handed over in the window
  in_window : (a time : ℕ) (s : AccessStream) (x : Crossing) → Contains s.crossings x → a ≤ x.frame.at.0 → x.frame.at.0 < a + time → Contains (handed_in a time s) x
  in_window a time s x k from upto =
      let t : nat_le a x.frame.at.0 ≡ true = le-leb a x.frame.at.0 from in
      let u : nat_lt x.frame.at.0 (a + time) ≡ true = lt-ltb x.frame.at.0 (a + time) upto in
      contains_filter (λ (y : Crossing). is_of a time y.frame.at.0) s.crossings x k (ap (λ (b : Bool). b && nat_lt x.frame.at.0 (a + time)) t ∙ u)

  -- how many frames of a stream are under way at an instant
  abbrev at_once : ℕ → ℕ → ℕ → AccessStream → ℕ
  at_once a time k s = sum_by (λ (x : Crossing). on x.start (stop_of link x) (a + k)) (handed_in a time s)

  by_frames : (a n time : ℕ) (s : AccessStream) → sum_by (λ k. at_once a time k s) (ups n) ≤ inner a n time s
  by_frames a n time s =
      let e : sum_by (λ k. at_once a time k s) (ups n) ≡ inner a n time s =
      double (λ k (x : Crossing). on x.start (stop_of link x) (a + k)) (ups n) (handed_in a time s) in
      omega (arith, e)

  -- if the link sends nothing else in a span no longer than the window, the span is no longer than what it sends
  all_covered : (a n time : ℕ) → n ≤ time → ((k : ℕ) → k < n → (a + k < a + taken_by_other link) ⊎ IsCovered link streams a (a + k)) →
      n ≤ taken_by_other link + sum_by (inner a n time) streams
  all_covered a n time short covered =
      omega (
        arith,
        past_many (taken_by_other link) n,
        sum_grouped (past (taken_by_other link)) (at_once a time) (inner a n time) (ups n) streams has (λ s c. by_frames a n time s),
      )
    where
      -- each instant that counts has a frame
      has : (k : ℕ) → Contains (ups n) k →
          ((s : AccessStream) × Contains streams s × (past (taken_by_other link) k ≤ at_once a time k s)) ⊎ (past (taken_by_other link) k ≡ 0)
      has k c =
          let w = contains_from_below (λ (j : ℕ). j ∷ []) n k c in
          let e : w.0 ≡ k = contains_one w.0 k w.2 in
          let less : k < n = omega (arith, w.1, e) in
          elim (covered k less) [
            | inl early ↦
                let before : k < taken_by_other link = omega (arith, early) in
                inr (cond-true {A = ℕ} (nat_lt k (taken_by_other link)) 0 1 (lt-ltb k (taken_by_other link) before))
            | inr v ↦
                let inside = in_window a time v.stream v.crossing v.is_crossing v.from_then (omega (arith, v.handed, less, short)) in
                let counts = sum_member (λ (x : Crossing). on x.start (stop_of link x) (a + k)) (handed_in a time v.stream) v.crossing inside in
                let one = on_one v.crossing.start (stop_of link v.crossing) (a + k) v.under_way.0 v.under_way.1 in
                inl (v.stream, v.is_stream, omega (arith, past_few (taken_by_other link) k, counts, one))
          ]

  -- so there is room after the span for what a stream could take of it but doesn't
  fits_beside : (a n time g : ℕ) (s : AccessStream) → IsBound link (promises_of streams) time → n ≤ time →
      ((k : ℕ) → k < n → (a + k < a + taken_by_other link) ⊎ IsCovered link streams a (a + k)) → Contains streams s →
      inner a n time s + g ≤ taken_within link time s.promise → n + g ≤ time
  fits_beside a n time g s bound short covered c room =
      let least = all_covered a n time short covered in
      let most = gained (inner a n time) (λ (r : AccessStream). taken_within link time r.promise) g streams s (λ r l. inner_few a n time r l) c room in
      let same : sum_by (λ (t : Traffic). taken_within link time t) (promises_of streams) ≡ sum_by (λ (r : AccessStream). taken_within link time r.promise) streams =
      sum_map (λ (t : Traffic). taken_within link time t) (λ (r : AccessStream). r.promise) streams in
      omega (arith, least, most, same, bound.enough)

  -- so there is for a frame of the window that isn't sent in the span, or not entirely
  fits : (a n time g : ℕ) (s : AccessStream) (x : Crossing) → IsBound link (promises_of streams) time → n ≤ time →
      ((k : ℕ) → k < n → (a + k < a + taken_by_other link) ⊎ IsCovered link streams a (a + k)) → Contains streams s → Contains (handed_in a time s) x →
      here a n x + g ≤ taken_of link s.promise.size → n + g ≤ time
  fits a n time g s x bound short covered c k room = fits_beside a n time g s bound short covered c (inner_more a n time g s x c k room)

  -- frames that start after the span take nothing of it
  inner_ahead : (a n time : ℕ) (s : AccessStream) → Contains streams s →
      inner a n time s ≤ length (ahead_in a time (a + n) s) * taken_of link s.promise.size
  inner_ahead a n time s c =
      let size = taken_of link s.promise.size in
      let test = is_ahead a time (a + n) in
      let counts = sum_le_members (λ (x : Crossing). here a n x) (λ (x : Crossing). if test x then size else 0) (handed_in a time s)
      (λ x k. ahead_or_none x (of_stream a time s x k) k) in
      let kept : sum_by (λ (x : Crossing). size) (filter test (handed_in a time s)) ≡ sum_by (λ (x : Crossing). if test x then size else 0) (handed_in a time s) =
      sum_filter (λ (x : Crossing). size) test (handed_in a time s) in
      let few = sum_by-le (λ (x : Crossing). size) size (filter test (handed_in a time s))
      (all_from_members (λ (x : Crossing). size ≤ size) (filter test (handed_in a time s)) (λ x k. omega arith)) in
      let same : length (filter test (handed_in a time s)) ≡ length (ahead_in a time (a + n) s) = ap length (sym (ahead_handed a time (a + n) s)) in
      omega (arith, counts, kept, few, ap (λ m. m * size) same)
    where
      ahead_or_none : (x : Crossing) → Contains s.crossings x → Contains (handed_in a time s) x →
          here a n x ≤ (if is_ahead a time (a + n) x then taken_of link s.promise.size else 0)
      ahead_or_none x k inside = elim (cases_Bool (is_ahead a time (a + n) x)) [
        | inl t ↦ omega (arith, cond-true {A = ℕ} (is_ahead a time (a + n) x) (taken_of link s.promise.size) 0 t, here_few a n s x c k)
        | inr f ↦
            let t : is_of a time x.frame.at.0 ≡ true = (contains_from_filter (λ (y : Crossing). is_of a time y.frame.at.0) s.crossings x inside).1 in
            let later : a + n ≤ x.start = elim (cases_lt x.start (a + n)) [
              | inl sooner ↦
                  let both : is_ahead a time (a + n) x ≡ true = ap (λ (b : Bool). b && nat_lt x.start (a + n)) t ∙ lt-ltb x.start (a + n) sooner in
                  absurd (different (sym f ∙ both))
              | inr e ↦ e
            ] in
            omega (arith, (seen_few a n x.start (stop_of link x)).0, later)
      ]
        where
          different : false ≡ true → ⊥
          different e = cc

  module _ (time : ℕ) (bound : IsBound link (promises_of streams) time) (s : AccessStream) (x : Crossing) (c : Contains streams s)
      (k : Contains s.crossings x) (last : IsLastIdle link streams x.frame.at.0) where
    -- the time of a largest frame of the stream
    abbrev size : ℕ
    size = taken_of link s.promise.size

    -- the link is busy up to the start
    covered_so : (n : ℕ) → last.at + n ≤ x.start → (j : ℕ) → j < n → (last.at + j < last.at + taken_by_other link) ⊎ IsCovered link streams last.at (last.at + j)
    covered_so n upto j less = covered_until link streams others sent s x c k last (last.at + j) (omega arith) (omega (arith, upto, less))

    -- the frame is of the window: otherwise a frame that was handed over in the window would be left at its end
    of_window : x.frame.at.0 < last.at + time
    of_window = elim (cases_lt x.frame.at.0 (last.at + time)) [
      | inl l ↦ l
      | inr past_it ↦ absurd (none past_it)
    ]
      where
        none : last.at + time ≤ x.frame.at.0 → ⊥
        none past_it =
            let upto : last.at + time ≤ x.start = omega (arith, past_it, sent.following s x c k) in
            let l = left_until link streams others sent s x c k last (last.at + time) (omega (arith, bound.positive)) upto in
            let from : last.at ≤ l.crossing.frame.at.0 = elim (cases_lt l.crossing.frame.at.0 last.at) [
              | inl sooner ↦ absurd (omega (
                arith,
                over_when_idle link streams last.at l.stream l.crossing last.idle l.is_stream l.is_crossing sooner,
                l.after,
              ))
              | inr e ↦ e
            ] in
            let few = (seen_few last.at time l.crossing.start (stop_of link l.crossing)).0 in
            let some = takes link streams others sent l.crossing.frame.octets in
            let no_more = takes_no_more l.stream l.crossing l.is_stream l.is_crossing in
            let stop : stop_of link l.crossing ≡ l.crossing.start + taken_of link l.crossing.frame.octets = omega arith in
            let room : here last.at time l.crossing + 1 ≤ taken_of link l.stream.promise.size = omega (arith, few, some, no_more, stop, l.after) in
            let over = fits last.at time time 1 l.stream l.crossing bound (omega arith) (covered_so time upto) l.is_stream
            (in_window last.at time l.stream l.crossing l.is_crossing from l.before) room in
            omega (arith, over)

    some : 0 < size
    some = takes link streams others sent s.promise.size

    following : x.frame.at.0 ≤ x.start
    following = sent.following s x c k

    inside : Contains (handed_in last.at time s) x
    inside = in_window last.at time s x k last.early of_window

    unseen : (n : ℕ) → last.at + n ≤ x.start → here last.at n x + size ≤ size
    unseen n upto = omega (arith, (seen_few last.at n x.start (stop_of link x)).0, upto)

    -- so a largest frame of its stream would end, with its gap, within the window
    starts_in_window : x.start + size ≤ last.at + time
    starts_in_window = elim (cases_lt (last.at + time) x.start) [
      | inl late ↦
          let over = fits last.at time time size s x bound (omega arith) (covered_so time (omega (arith, late))) c inside
          (unseen time (omega (arith, late))) in
          absurd (omega (arith, over, some))
      | inr early ↦
          let n = x.start - last.at in
          let whole : last.at + n ≡ x.start = omega (arith, following, last.early) in
          let over = fits last.at n time size s x bound (omega (arith, early)) (covered_so n (omega (arith, whole))) c inside
          (unseen n (omega (arith, whole))) in
          omega (arith, over, whole)
    ]

    -- so it starts in time
    starts : x.start + taken_of link s.promise.size ≤ x.frame.at.0 + time
    starts = omega (arith, starts_in_window, last.early)

    -- it waits for the frames of its own stream that start before it, and for the most that others take
    starts_after : IsAfterOwn link time last.at s x
    starts_after =
        let n = x.start - last.at in
        let whole : last.at + n ≡ x.start = omega (arith, following, last.early) in
        let ahead = inner_ahead last.at n time s c in
        let same : length (ahead_in last.at time (last.at + n) s) ≡ length (ahead_in last.at time x.start s) = ap (λ e. length (ahead_in last.at time e s)) whole in
        let few : length (ahead_in last.at time x.start s) + 1 ≤ most_frames time s.promise =
        omega (arith, ahead_few last.at time s x inside, few_handed skips last.at time s (sent.promised s c) (sent.kept s c)) in
        let room : inner last.at n time s + (most_frames time s.promise - length (ahead_in last.at time x.start s)) * size ≤ taken_within link time s.promise =
        numbers (inner last.at n time s) (length (ahead_in last.at time (last.at + n) s)) (length (ahead_in last.at time x.start s)) (most_frames time s.promise) size
        ahead same few in
        let over = fits_beside last.at n time ((most_frames time s.promise - length (ahead_in last.at time x.start s)) * size) s bound
        (omega (arith, starts_in_window, whole)) (covered_so n (omega (arith, whole))) c room in
        record {
          few = few;
          early = omega (arith, starts_in_window, some);
          starts = put_together x.start last.at n time (length (ahead_in last.at time x.start s)) (most_frames time s.promise) size whole few over;
        }
      where
        numbers : (taken these ahead most size : ℕ) → taken ≤ these * size → these ≡ ahead → ahead + 1 ≤ most → taken + (most - ahead) * size ≤ most * size
        numbers taken these ahead most size a e few =
            let parts : most ≡ ahead + (most - ahead) = omega (arith, few) in
            let all : most * size ≡ ahead * size + (most - ahead) * size = omega (arith, ap (λ m. m * size) parts) in
            omega (arith, a, ap (λ m. m * size) e, all)

        put_together : (start at n time ahead most size : ℕ) → at + n ≡ start → ahead + 1 ≤ most → n + (most - ahead) * size ≤ time →
            start + most * size ≤ at + time + ahead * size
        put_together start at n time ahead most size e few over =
            let parts : most ≡ ahead + (most - ahead) = omega (arith, few) in
            let all : most * size ≡ ahead * size + (most - ahead) * size = omega (arith, ap (λ m. m * size) parts) in
            omega (arith, e, over, all)

pub access_link_bounds_queueing : SkippingConforms → AccessLinkBoundsQueueing
access_link_bounds_queueing skips link streams others time s x sent bound c k =
    starts skips link streams others sent time bound s x c k (last_idle link streams x.frame.at.0)

pub frame_is_after_own : SkippingConforms → (link : AccessLink) (streams : List AccessStream) (others : List Other) (time : ℕ) (s : AccessStream)
    (x : Crossing) → IsSent link streams others → IsBound link (promises_of streams) time → Contains streams s → Contains s.crossings x →
    (last : IsLastIdle link streams x.frame.at.0) → IsAfterOwn link time last.at s x
frame_is_after_own skips link streams others time s x sent bound c k last = starts_after skips link streams others sent time bound s x c k last
