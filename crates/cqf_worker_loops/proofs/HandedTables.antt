-- Ends of pipes: items are put at each in turn, skipping those whose other end is gone.
use Rattle.std.proofs.Common.{ℕ, ◌≡◌, ◌<◌, ◌≤◌, ◌+◌, ◌⊎◌, ◌++◌, Bool, List, length, get_or, set, refl, sym, ap, ◌∙◌, arith, inl, inr}
use Rattle.std.specs.Prelude.{All, true, false}
use Rattle.std.proofs.lemmas.Bool.{cases_Bool, cases_eq, false≢true}
use Rattle.std.proofs.lemmas.List.{get_or_default, get_or-set_other, get_or-set_same, length-set}
use Rattle.std.proofs.Math.Seq.{map-set_same}
use Rattle.cqf_worker_loops.specs.Handing.{GivesEach, GivesSome, pipes_of}
use Rattle.cqf_worker_loops.specs.PipeEnds.{End}
use Rattle.cqf_worker_loops.specs.Rows.{MayGet, with_items}
use Rattle.cqf_worker_loops.specs.PipeRule.{most_items}

-- the first count ends have the new items if all got them; the later ends are unchanged
pub record HandsOn {T : Type 0} (xs : List T) (before after : List (End T)) (count : ℕ) (all : Bool) : Type 0 where
  pub many : length after ≡ length before
  pub pipes : pipes_of after ≡ pipes_of before
  pub following : (index : ℕ) (d : End T) → count ≤ index → get_or after index d ≡ get_or before index d
  pub some : GivesSome xs before after
  pub given : all ≡ true → (index : ℕ) (d : End T) → index < count → (get_or after index d).items ≡ (get_or before index d).items ++ xs

-- an end at which at most these items were put
pub record IsHanded {T : Type 0} (xs : List T) (before after : End T) (given : Bool) : Type 0 where
  pub got : MayGet xs before after
  pub has : given ≡ true → after.items ≡ before.items ++ xs

-- the items that were put, replaced by equal ones
pub handed_as : {T : Type 0} (xs ys : List T) (before after : End T) (given : Bool) → ys ≡ xs → (given ≡ true → after ≡ with_items before ys) →
    (given ≡ false → after ≡ before) → IsHanded xs before after given
handed_as {T} xs ys before after given same has gone = record {
  got = elim (cases_Bool given) [
    | inl is ↦ inr (has is ∙ ap (λ (zs : List T). with_items before zs) same)
    | inr is ↦ inl (gone is)
  ];
  has = λ is. ap (λ (e : End T). e.items) (has is) ∙ ap (λ (zs : List T). before.items ++ zs) same;
}

-- the end is still that of the pipe
same_pipe : {T : Type 0} (xs : List T) (before after : End T) → MayGet xs before after → after.pipe ≡ before.pipe
same_pipe {T} xs before after may =
    elim may [
      | inl same ↦ ap (λ (e : End T). e.pipe) same
      | inr more ↦ ap (λ (e : End T). e.pipe) more
    ]

-- ends, replaced by equal ones
got_as : {T : Type 0} (xs : List T) (before after was now : End T) → before ≡ was → now ≡ after → MayGet xs before after → MayGet xs was now
got_as {T} xs before after was now is_was is_now may =
    elim may [
      | inl same ↦ inl (is_now ∙ same ∙ is_was)
      | inr more ↦ inr (is_now ∙ more ∙ ap (λ (e : End T). with_items e xs) is_was)
    ]

-- if not all got the items, one of the first ends is unchanged
abbrev pub MissesFirst : {T : Type 0} → List (End T) → List (End T) → ℕ → Bool → Type 0
MissesFirst {T} before after count all = all ≡ false → (index : ℕ) × (index < count) × ((d : End T) → get_or after index d ≡ get_or before index d)

-- whether all got them, by whether those before did and whether this one did
abbrev pub HaveAll : Bool → Bool → Bool → Type 0
HaveAll all given more = more ≡ true → (all ≡ true) × (given ≡ true)

module _ {T : Type 0} (xs : List T) where
  -- at first nothing was put
  pub hands_none : (before : List (End T)) → HandsOn xs before before 0 true
  hands_none before = record {
    many = refl;
    pipes = refl;
    following = λ index d h. refl;
    some = λ index d inside. inl refl;
    given = λ all index d h. absurd (omega (arith, h));
  }

  -- and all got that
  pub misses_none : (before : List (End T)) → MissesFirst before before 0 true
  misses_none before is = absurd (false≢true (sym is))

  -- the same if it doesn't matter whether all got them
  pub hands_some : (before : List (End T)) → HandsOn xs before before 0 false
  hands_some before = record {
    many = refl;
    pipes = refl;
    following = λ index d h. refl;
    some = λ index d inside. inl refl;
    given = λ all index d h. absurd (omega (arith, h));
  }

  module _ (before after : List (End T)) (count : ℕ) (all : Bool) (d end : End T) (given more : Bool) (so_far : HandsOn xs before after count all)
      (below : count < length before) (handed : IsHanded xs (get_or after count d) end given) (have : HaveAll all given more) where
    -- the end at an index, after the items were put at the next one
    at_next : (e : End T) → get_or (set after count end) count e ≡ end
    at_next e = get_or-set_same after count end e (omega (arith, below, so_far.many))

    -- each end has the new items, or nothing new
    some_next : GivesSome xs before (set after count end)
    some_next index e inside =
        elim (cases_eq index count) [
          | inl here ↦
              let now : get_or (set after count end) index e ≡ end = ap (λ (k : ℕ). get_or (set after count end) k e) here ∙ at_next e in
              let was : get_or after count d ≡ get_or before index e =
              so_far.following count d (omega arith) ∙ get_or_default before count d e below ∙ ap (λ (k : ℕ). get_or before k e) (sym here) in
              got_as xs (get_or after count d) end (get_or before index e) (get_or (set after count end) index e) was now handed.got
          | inr other ↦
              let same : get_or (set after count end) index e ≡ get_or after index e = get_or-set_other after count index end e other in
              got_as xs (get_or before index e) (get_or after index e) (get_or before index e) (get_or (set after count end) index e) refl same
              (so_far.some index e inside)
        ]

    -- each of those so far has the items if all got them
    given_next : more ≡ true → (index : ℕ) (e : End T) → index < count + 1 → (get_or (set after count end) index e).items ≡ (get_or before index e).items ++ xs
    given_next is index e inside =
        elim (cases_eq index count) [
          | inl here ↦
              let now : get_or (set after count end) index e ≡ end = ap (λ (k : ℕ). get_or (set after count end) k e) here ∙ at_next e in
              let was : get_or after count d ≡ get_or before index e =
              so_far.following count d (omega arith) ∙ get_or_default before count d e below ∙ ap (λ (k : ℕ). get_or before k e) (sym here) in
              ap (λ (z : End T). z.items) now ∙ handed.has (have is).1 ∙ ap (λ (z : End T). z.items ++ xs) was
          | inr other ↦
              ap (λ (z : End T). z.items) (get_or-set_other after count index end e other)
              ∙ so_far.given (have is).0 index e (omega (arith, inside, other))
        ]

    -- so it goes on
    pub hands_next : HandsOn xs before (set after count end) (count + 1) more
    hands_next = record {
      many = length-set after count end ∙ so_far.many;
      pipes = map-set_same (λ (z : End T). z.pipe) after count end d (same_pipe xs (get_or after count d) end handed.got) ∙ so_far.pipes;
      following = λ index e h. get_or-set_other after count index end e (λ same. omega (arith, same, h)) ∙ so_far.following index e (omega (arith, h));
      some = some_next;
      given = given_next;
    }

  -- if the next end or one before wasn't given them, one of those so far is unchanged
  pub misses_next : (before after : List (End T)) (count : ℕ) (all : Bool) (d end : End T) (given more : Bool) → HandsOn xs before after count all →
      count < length before → MissesFirst before after count all → (given ≡ false → end ≡ get_or after count d) →
      (more ≡ false → (all ≡ false) ⊎ (given ≡ false)) → MissesFirst before (set after count end) (count + 1) more
  misses_next before after count all d end given more so_far below missed gone lack is =
      elim (lack is) [
        | inl was ↦
            let m = missed was in (
              m.0,
              omega (arith, m.1),
              λ e. get_or-set_other after count m.0 end e (λ same. omega (arith, same, m.1)) ∙ m.2 e,
            )
        | inr now ↦ (
          count,
          omega arith,
          λ e. get_or-set_same after count end e (omega (arith, below, so_far.many)) ∙ gone now ∙ so_far.following count d (omega arith)
              ∙ get_or_default before count d e below,
        )
      ]

  -- at the end it holds of all
  pub hands_all : (before after : List (End T)) (count : ℕ) (all : Bool) → HandsOn xs before after count all → length before ≤ count → all ≡ true →
      GivesEach xs before after
  hands_all before after count all h upto is index d inside = h.given is index d (omega (arith, inside, upto))

  -- the next end still has room
  pub room_next : (more : ℕ) (before after : List (End T)) (count : ℕ) (all : Bool) (d : End T) → HandsOn xs before after count all →
      All (λ (e : End T). length e.items + more < most_items) before → count < length before → length (get_or after count d).items + more < most_items
  room_next more before after count all d h room below =
      omega (arith, room count d below, ap (λ (e : End T). length e.items) (h.following count d (omega arith)))
