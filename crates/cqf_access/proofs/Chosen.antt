-- If something exists for each number, a function chooses it; and frames that a link sends one after the other take as many places.
use Rattle.std.proofs.Common.{◌≡◌, ℕ, suc, ◌+◌, ◌-◌, ◌*◌, ◌/◌, ◌<◌, ◌≤◌, ◌⊎◌, inl, inr, arith}
use Rattle.std.proofs.lemmas.Bool.{cases_lt}
use Rattle.std.proofs.lemmas.Nat.{le-div}
use Rattle.cqf_units.proofs.Cycles.{cycle_below, cycle_from}
use Rattle.cqf_access.proofs.Spread.{crowded}

module _ (n : ℕ) (P : ℕ → ℕ → Type 0) (has : (k : ℕ) → k < n → (v : ℕ) × P k v) where
  abbrev pick : (k : ℕ) → (k < n) ⊎ (n ≤ k) → ℕ
  pick k (inl l) = (has k l).0
  pick k (inr m) = 0

  picked : (k : ℕ) (c : (k < n) ⊎ (n ≤ k)) → k < n → P k (pick k c)
  picked k (inl l) inside = (has k l).1
  picked k (inr m) inside = absurd (omega (arith, m, inside))

  pub chosen : (f : ℕ → ℕ) × ((k : ℕ) → k < n → P k (f k))
  chosen = (λ k. pick k (cases_lt k n), λ k l. picked k (cases_lt k n) l)

-- the number that a frame gets: its place, if that is one of the `few` from `low` on, or else `few` plus the number of the room in which it
-- starts. Rooms are counted from the instant `from`
pub record HasRoom (low few from room at start v : ℕ) : Type 0 where
  pub which : ((at < low + few) × (low + v ≡ at)) ⊎ ((low + few ≤ at) × (v ≡ few + (start - from) / room))

-- if starts are a room apart from each other, and the last room ends `rooms` rooms after `from`, there are at most `few + rooms` frames
pub too_many : (low few rooms from room : ℕ) (at start : ℕ → ℕ) → 0 < room →
    ((k : ℕ) → k < suc (few + rooms) → low ≤ at k) →
    ((k : ℕ) → k < suc (few + rooms) → low + few ≤ at k → from ≤ start k) →
    ((k : ℕ) → k < suc (few + rooms) → start k < from + rooms * room) →
    ((j k : ℕ) → j < k → k < suc (few + rooms) → at j ≡ at k → ⊥) →
    ((j k : ℕ) → j < k → k < suc (few + rooms) → (start j + room ≤ start k) ⊎ (start k + room ≤ start j)) → ⊥
too_many low few rooms from room at start some least later sooner apart active_cycles = crowded f.0 (few + rooms) small different
  where
    Index : ℕ → ℕ → Type 0
    Index k v = HasRoom low few from room (at k) (start k) v

    has : (k : ℕ) → k < suc (few + rooms) → (v : ℕ) × Index k v
    has k l = elim (cases_lt (at k) (low + few)) [
      | inl early ↦ (at k - low, record { which = inl (early, omega (arith, least k l)) })
      | inr late ↦ (few + (start k - from) / room, record { which = inr (late, omega arith) })
    ]

    f : (g : ℕ → ℕ) × ((k : ℕ) → k < suc (few + rooms) → Index k (g k))
    f = chosen (suc (few + rooms)) Index has

    small : (k : ℕ) → k < suc (few + rooms) → f.0 k < few + rooms
    small k l = elim ((f.1 k l).which) [
      | inl p ↦ omega (arith, p.0, p.1)
      | inr p ↦
          let less : (start k - from) / room < rooms = cycle_below room (start k - from) rooms
          (omega (arith, sooner k l, later k l p.0)) in
          omega (arith, p.1, less)
    ]

    -- a start that is later by a room is in a later room
    next_room : (first second : ℕ) → from ≤ first → first + room ≤ second → (first - from) / room + 1 ≤ (second - from) / room
    next_room first second a b = le-div ((first - from) / room + 1) (second - from) room some
        (omega (arith, cycle_from room (first - from), a, b))

    different : (j k : ℕ) → j < k → k < suc (few + rooms) → f.0 j ≡ f.0 k → ⊥
    different j k less l e =
        let m : j < suc (few + rooms) = omega (arith, less, l) in
        elim ((f.1 j m).which) [
          | inl p ↦ elim ((f.1 k l).which) [
            | inl q ↦ apart j k less l (omega (arith, p.1, q.1, e))
            | inr q ↦ omega (arith, p.0, p.1, q.1, e)
          ]
          | inr p ↦ elim ((f.1 k l).which) [
            | inl q ↦ omega (arith, q.0, q.1, p.1, e)
            | inr q ↦ elim (active_cycles j k less l) [
              | inl sooner ↦ omega (arith, next_room (start j) (start k) (later j m p.0) sooner, p.1, q.1, e)
              | inr sooner ↦ omega (arith, next_room (start k) (start j) (later k l q.0) sooner, p.1, q.1, e)
            ]
          ]
        ]
