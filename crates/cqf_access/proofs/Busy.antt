-- After the last instant at which nothing that was handed over earlier is left, the link is busy until a frame starts.
use Rattle.std.proofs.Common.{◌≡◌, ℕ, zero, suc, ◌+◌, ◌<◌, ◌≤◌, ◌&&◌, ◌⊎◌, List, Bool, true, false, inl, inr, sym, ap, ◌∙◌, subst, arith, Contains, nat_lt}
use Rattle.std.specs.List.{list_any}
use Rattle.std.proofs.lemmas.Bool.{and_parts, cases_Bool, cases_lt, ltb-true, lt-ltb}
use Rattle.cqf_lists.proofs.Any.{none_member}
use Rattle.cqf_lists.proofs.Members.{any_member}
use Rattle.cqf_units.specs.Timing.{idle_after}
use Rattle.cqf_units.proofs.Times.{slot_some}
use Rattle.cqf_access.specs.Access.{AccessLink, AccessStream, Crossing, IsSent, IsUnderWay, Other, taken_by_other, taken_of}

-- when a frame's gap is over
abbrev pub stop_of : AccessLink → Crossing → ℕ
stop_of link x = idle_after x.start x.frame.octets link.octet_time

-- the frame was handed over before an instant, and isn't over then
abbrev pub is_left : AccessLink → ℕ → Crossing → Bool
is_left link at x = nat_lt x.frame.at.0 at && nat_lt at (stop_of link x)

abbrev pub is_busy : AccessLink → List AccessStream → ℕ → Bool
is_busy link streams at = list_any (λ (s : AccessStream). list_any (is_left link at) s.crossings) streams

-- one such frame
pub record IsLeft (link : AccessLink) (streams : List AccessStream) (at : ℕ) : Type 0 where
  pub stream : AccessStream
  pub crossing : Crossing
  pub is_stream : Contains streams stream
  pub is_crossing : Contains stream.crossings crossing
  pub before : crossing.frame.at.0 < at
  pub after : at < stop_of link crossing

pub left_when_busy : (link : AccessLink) (streams : List AccessStream) (at : ℕ) → is_busy link streams at ≡ true → IsLeft link streams at
left_when_busy link streams at busy =
    let s = any_member (λ (s : AccessStream). list_any (is_left link at) s.crossings) streams busy in
    let x = any_member (is_left link at) s.0.crossings s.2 in
    let p = and_parts (nat_lt x.0.frame.at.0 at) (nat_lt at (stop_of link x.0)) x.2 in
    record {
      stream = s.0;
      crossing = x.0;
      is_stream = s.1;
      is_crossing = x.1;
      before = ltb-true x.0.frame.at.0 at p.0;
      after = ltb-true at (stop_of link x.0) p.1;
    }

-- if there is no such frame, what was handed over before is over
pub over_when_idle : (link : AccessLink) (streams : List AccessStream) (at : ℕ) (s : AccessStream) (x : Crossing) → is_busy link streams at ≡ false →
    Contains streams s → Contains s.crossings x → x.frame.at.0 < at → stop_of link x ≤ at
over_when_idle link streams at s x idle in_streams in_stream before =
    let none = none_member (is_left link at) s.crossings x
    (none_member (λ (s : AccessStream). list_any (is_left link at) s.crossings) streams s idle in_streams) in_stream in
    elim (cases_lt at (stop_of link x)) [
      | inl later ↦
          let t : nat_lt x.frame.at.0 at ≡ true = lt-ltb x.frame.at.0 at before in
          let u : nat_lt at (stop_of link x) ≡ true = lt-ltb at (stop_of link x) later in
          let both : is_left link at x ≡ true = ap (λ (b : Bool). b && nat_lt at (stop_of link x)) t ∙ u in
          absurd (different (sym none ∙ both))
      | inr e ↦ e
    ]
  where
    different : false ≡ true → ⊥
    different e = cc

-- the last instant up to a given one at which there is no such frame
pub record IsLastIdle (link : AccessLink) (streams : List AccessStream) (upto : ℕ) : Type 0 where
  pub at : ℕ
  pub early : at ≤ upto
  pub idle : is_busy link streams at ≡ false
  pub busy : (v : ℕ) → at < v → v ≤ upto → is_busy link streams v ≡ true

pub last_idle : (link : AccessLink) (streams : List AccessStream) (upto : ℕ) → IsLastIdle link streams upto
last_idle link streams zero = elim (cases_Bool (is_busy link streams 0)) [
  | inl t ↦ absurd (omega (arith, (left_when_busy link streams 0 t).before))
  | inr f ↦ record { at = 0; early = omega arith; idle = f; busy = λ v l u. absurd (omega (arith, l, u)) }
]
last_idle link streams (suc n) = elim (cases_Bool (is_busy link streams (suc n))) [
  | inl t ↦
      let r = last_idle link streams n in
      record {
        at = r.at;
        early = omega (arith, r.early);
        idle = r.idle;
        busy = λ v l u. elim (cases_lt n v) [
          | inl m ↦ let e : suc n ≡ v = omega (arith, m, u) in subst (λ w. is_busy link streams w ≡ true) e t
          | inr m ↦ r.busy v l m
        ];
      }
  | inr f ↦ record { at = suc n; early = omega arith; idle = f; busy = λ v l u. absurd (omega (arith, l, u)) }
]

-- a frame of a stream that is handed over from an instant on is under way
pub record IsCovered (link : AccessLink) (streams : List AccessStream) (from at : ℕ) : Type 0 where
  pub stream : AccessStream
  pub crossing : Crossing
  pub is_stream : Contains streams stream
  pub is_crossing : Contains stream.crossings crossing
  pub from_then : from ≤ crossing.frame.at.0
  pub handed : crossing.frame.at.0 ≤ at
  pub under_way : IsUnderWay link crossing.start crossing.frame.octets at

module _ (link : AccessLink) (streams : List AccessStream) (others : List Other) (sent : IsSent link streams others) where
  -- a frame takes time
  pub takes : (octets : ℕ) → 0 < taken_of link octets
  takes octets = slot_some octets link.octet_time sent.takes_time

  pub stops_later : (x : Crossing) → x.start < stop_of link x
  stops_later x = omega (arith, takes x.frame.octets)

  module _ (s : AccessStream) (x : Crossing) (in_streams : Contains streams s) (in_stream : Contains s.crossings x)
      (last : IsLastIdle link streams x.frame.at.0) where
    -- at each later instant up to the start some frame is left
    pub left_until : (v : ℕ) → last.at < v → v ≤ x.start → IsLeft link streams v
    left_until v later upto = elim (cases_lt x.frame.at.0 v) [
      | inl waits ↦
          let after : v < stop_of link x = omega (arith, upto, stops_later x) in
          record { stream = s; crossing = x; is_stream = in_streams; is_crossing = in_stream; before = waits; after = after }
      | inr early ↦ left_when_busy link streams v (last.busy v later early)
    ]

    -- a frame that is under way or left was handed over no earlier
    no_sooner : (r : AccessStream) (y : Crossing) (at : ℕ) → Contains streams r → Contains r.crossings y → last.at ≤ at → at < stop_of link y →
        last.at ≤ y.frame.at.0
    no_sooner r y at c k from upto = elim (cases_lt y.frame.at.0 last.at) [
      | inl sooner ↦ absurd (omega (arith, from, upto, over_when_idle link streams last.at r y last.idle c k sooner))
      | inr e ↦ e
    ]

    -- another frame that is under way didn't start later
    other_first : (o : Other) (at : ℕ) → Contains others o → last.at ≤ at → at < x.start → IsUnderWay link o.start o.octets at → at < last.at + taken_by_other link
    other_first o at c from upto travel =
        let short : idle_after o.start o.octets link.octet_time ≤ o.start + taken_by_other link = omega (arith, sent.small o c) in
        elim (cases_lt last.at o.start) [
          | inl later ↦ absurd (never later)
          | inr early ↦ omega (arith, travel.1, short, early)
        ]
      where
        -- otherwise it would have started while a frame of a stream was left
        never : last.at < o.start → ⊥
        never later =
            let l = left_until o.start later (omega (arith, travel.0, upto)) in
            let longer : o.start < idle_after o.start o.octets link.octet_time = omega (arith, takes o.octets) in
            elim (sent.apart l.stream l.crossing o l.is_stream l.is_crossing c) [
              | inl following ↦ omega (arith, sent.yields l.stream l.crossing o l.is_stream l.is_crossing c l.before, following, longer)
              | inr before ↦ omega (arith, before, l.after)
            ]

    -- so at each instant up to the start the link sends what was handed over since, except one frame of no stream at the beginning
    pub covered_until : (at : ℕ) → last.at ≤ at → at < x.start → (at < last.at + taken_by_other link) ⊎ IsCovered link streams last.at at
    covered_until at from upto =
        let l = left_until (suc at) (omega (arith, from)) (omega (arith, upto)) in
        let after : at < stop_of link l.crossing = omega (arith, l.after) in
        let before : l.crossing.frame.at.0 ≤ at = omega (arith, l.before) in
        elim (cases_lt at l.crossing.start) [
          | inl waits ↦ elim (sent.works l.stream l.crossing at l.is_stream l.is_crossing before waits) [
            | inl y ↦ inr (record {
              stream = y.stream;
              crossing = y.crossing;
              is_stream = y.is_stream;
              is_crossing = y.is_crossing;
              from_then = no_sooner y.stream y.crossing at y.is_stream y.is_crossing from y.under_way.1;
              handed = omega (arith, sent.following y.stream y.crossing y.is_stream y.is_crossing, y.under_way.0);
              under_way = y.under_way;
            })
            | inr o ↦ inl (other_first o.one at o.is_one from upto o.under_way)
          ]
          | inr under ↦ inr (record {
            stream = l.stream;
            crossing = l.crossing;
            is_stream = l.is_stream;
            is_crossing = l.is_crossing;
            from_then = no_sooner l.stream l.crossing at l.is_stream l.is_crossing from after;
            handed = before;
            under_way = (under, after);
          })
        ]
