-- Lists of entries that each last a number of cycles: which entry is in force in a cycle.
use Rattle.std.proofs.Common.{◌≡◌, ℕ, ◌+◌, ◌-◌, ◌*◌, ◌<◌, ◌≤◌, suc, List, [], ◌∷◌, ◌++◌, length, Bool, false, if◌then◌else◌, Some, inl, inr}
use Rattle.std.proofs.Common.{refl, ap, sym, ◌∙◌, arith, nat_lt, lt-ltb, le-ltb, ◌==◌, eq-eqb}
use Rattle.std.specs.Prelude.{slice_get}
use Rattle.std.proofs.lemmas.Bool.{cases_lt, cond-false, cond-true, ne_eqb}
use Rattle.std.proofs.lemmas.Bool.Decides.{eqb_tells}
use Rattle.std.proofs.lemmas.List.Sums.{sum_by-append, sum_by-cons}
use Rattle.std.proofs.lemmas.Nat.{mul-le}
use Rattle.cqf_lists.proofs.Indices.{slice_get_after}
use Rattle.cqf_model.specs.declared.gates.StreamEntry.{StreamEntry}
use Rattle.cqf_model.specs.StreamGate.{gate_round, index_in}
use Rattle.cqf_gates.specs.ReservedSpans.{closed_for}

-- the round of a concatenation
pub round_after : (front back : List StreamEntry) → gate_round (front ++ back) ≡ gate_round front + gate_round back
round_after front back = sum_by-append (λ (entry : StreamEntry). entry.interval) front back

pub round_first : (e : StreamEntry) (back : List StreamEntry) → gate_round (e ∷ back) ≡ e.interval + gate_round back
round_first e back = sum_by-cons (λ (entry : StreamEntry). entry.interval) e back

-- the first entry is in force up to its end
index_first : (e : StreamEntry) (back : List StreamEntry) (offset : ℕ) → offset < e.interval → index_in (e ∷ back) offset ≡ 0
index_first e back offset inside = cond-true (nat_lt offset e.interval) 0 (suc (index_in back (offset - e.interval))) (lt-ltb offset e.interval inside)

-- and after that one of the others
index_later : (e : StreamEntry) (back : List StreamEntry) (offset : ℕ) → e.interval ≤ offset →
    index_in (e ∷ back) offset ≡ suc (index_in back (offset - e.interval))
index_later e back offset later = cond-false (nat_lt offset e.interval) 0 (suc (index_in back (offset - e.interval))) (le-ltb offset e.interval later)

-- within the entries in front one of them is in force
pub index_front : (front back : List StreamEntry) (offset : ℕ) → offset < gate_round front → index_in (front ++ back) offset < length front
index_front [] back offset inside = absurd (omega (arith, inside))
index_front (e ∷ front) back offset inside =
    let whole = round_first e front in
    elim (cases_lt offset e.interval) [
      | inl first ↦ omega (arith, index_first e (front ++ back) offset first)
      | inr later ↦
          let rest = index_front front back (offset - e.interval) (omega (arith, inside, whole, later)) in
          omega (arith, index_later e (front ++ back) offset later, rest)
    ]

-- after these it is one of the others
pub index_after : (front back : List StreamEntry) (offset rest : ℕ) → offset ≡ gate_round front + rest →
    index_in (front ++ back) offset ≡ length front + index_in back rest
index_after [] back offset rest is =
    let same : offset ≡ rest = omega (arith, is) in
    let there : index_in back offset ≡ index_in back rest = ap (index_in back) same in
    omega (arith, there)
index_after (e ∷ front) back offset rest is =
    let whole = round_first e front in
    let later : e.interval ≤ offset = omega (arith, is, whole) in
    let there = index_after front back (offset - e.interval) rest (omega (arith, is, whole)) in
    omega (arith, index_later e (front ++ back) offset later, there)

-- an entry begins after a number of cycles, and lasts one cycle
pub record StandsAt (entries : List StreamEntry) (n : ℕ) (e : StreamEntry) (cell : ℕ) : Type 0 where
  pub front : List StreamEntry
  pub back : List StreamEntry
  pub parted : entries ≡ front ++ (e ∷ back)
  pub before : gate_round front ≡ cell * n
  pub long : e.interval ≡ n

-- it is in force in the cycle after these
module _ (n : ℕ) (e : StreamEntry) (front back : List StreamEntry) (q : ℕ) (before : gate_round front ≡ q * n) (long : e.interval ≡ n) where
  -- at its beginning and up to its end
  index_now : (rem : ℕ) → rem < n → index_in (front ++ (e ∷ back)) (q * n + rem) ≡ length front
  index_now rem inside =
      let following = index_after front (e ∷ back) (q * n + rem) rem (omega (arith, before)) in
      omega (arith, following, index_first e back rem (omega (arith, inside, long)))

  -- and in no other cycle
  index_only : (cell rem : ℕ) → rem < n → index_in (front ++ (e ∷ back)) (cell * n + rem) ≡ length front → cell ≡ q
  index_only cell rem inside at =
      elim (cases_lt cell q) [
        | inl sooner ↦
            let most : suc cell * n ≤ q * n = mul-le (suc cell) n q n sooner (omega arith) in
            let short : cell * n + rem < gate_round front = omega (arith, most, before, inside) in
            absurd (omega (arith, index_front front (e ∷ back) (cell * n + rem) short, at))
        | inr late ↦
            elim (cases_lt q cell) [
              | inl later ↦
                  let least : suc q * n ≤ cell * n = mul-le (suc q) n cell n later (omega arith) in
                  let rest : ℕ = cell * n + rem - q * n in
                  let long_after : e.interval ≤ rest = omega (arith, least, long) in
                  let following = index_after front (e ∷ back) (cell * n + rem) rest (omega (arith, least, before)) in
                  absurd (omega (arith, following, index_later e back rest long_after, at))
              | inr same ↦ omega (arith, late, same)
            ]
      ]

-- the entry is in force in exactly that cycle of a round
pub stands_index : (entries : List StreamEntry) (n : ℕ) (e : StreamEntry) (q : ℕ) (at : StandsAt entries n e q) (cell rem : ℕ) → rem < n →
    (index_in entries (cell * n + rem) == length at.front) ≡ (cell == q)
stands_index entries n e q at cell rem inside =
    let here = at.front ++ (e ∷ at.back) in
    ap (λ (xs : List StreamEntry). index_in xs (cell * n + rem) == length at.front) at.parted
    ∙ elim (eqb_tells cell q) [
      | inl met ↦
          let same : cell * n + rem ≡ q * n + rem = ap (λ z. z * n + rem) met.1 in
          eq-eqb (index_in here (cell * n + rem)) (length at.front) (ap (index_in here) same ∙ index_now n e at.front at.back q at.before at.long rem inside) ∙ sym met.0
      | inr other ↦
          ne_eqb (index_in here (cell * n + rem)) (length at.front)
          (λ same. other.1 (index_only n e at.front at.back q at.before at.long cell rem inside same)) ∙ sym other.0
    ]

-- in that cycle the entry is found
pub stands_found : (entries : List StreamEntry) (n : ℕ) (e : StreamEntry) (q : ℕ) (at : StandsAt entries n e q) (rem : ℕ) → rem < n →
    (index_in entries (q * n + rem) ≡ length at.front) × (slice_get entries (index_in entries (q * n + rem)) ≡ Some e)
stands_found entries n e q at rem inside =
    let index = ap (λ (xs : List StreamEntry). index_in xs (q * n + rem)) at.parted ∙ index_now n e at.front at.back q at.before at.long rem inside in (
      index,
      ap (λ (xs : List StreamEntry). slice_get xs (index_in entries (q * n + rem))) at.parted
          ∙ slice_get_after at.front e at.back (index_in entries (q * n + rem)) index,
    )

-- nothing passes at this offset from the beginning of a round
pub record IsClosed (entries : List StreamEntry) (offset : ℕ) : Type 0 where
  pub entry : StreamEntry
  pub in_force : slice_get entries (index_in entries offset) ≡ Some entry
  pub shut : entry.octet_max ≡ Some 0

-- a closed span lasts its number of cycles
pub round_closed : (n cycles : ℕ) → gate_round (closed_for n cycles) ≡ cycles * n
round_closed n cycles =
    elim (eqb_tells cycles 0) [
      | inl none ↦
          ap (λ (b : Bool). gate_round (span b)) none.0 ∙ omega (arith, ap (λ z. z * n) none.1)
      | inr some ↦ ap (λ (b : Bool). gate_round (span b)) some.0 ∙ round_first shut [] ∙ omega arith
    ]
  where
    shut : StreamEntry
    shut = record { ipv = 6; interval = cycles * n; octet_max = Some 0 }

    span : Bool → List StreamEntry
    span b = if b then [] else shut ∷ []

-- and is in force in these cycles
pub closed_within : (entries front back : List StreamEntry) (n first cycles cell rem : ℕ) → entries ≡ front ++ (closed_for n cycles ++ back) →
    gate_round front ≡ first * n → first ≤ cell → cell < first + cycles → rem < n → IsClosed entries (cell * n + rem)
closed_within entries front back n first cycles cell rem parted before begun inside small =
    let shut : StreamEntry = record { ipv = 6; interval = cycles * n; octet_max = Some 0 } in
    let some : (cycles == 0) ≡ false = ne_eqb cycles 0 (λ none. absurd (omega (arith, none, begun, inside))) in
    let spans : closed_for n cycles ≡ shut ∷ [] = ap (λ (b : Bool). if b then [] else shut ∷ []) some in
    let here : entries ≡ front ++ (shut ∷ back) = parted ∙ ap (λ (xs : List StreamEntry). front ++ (xs ++ back)) spans in
    let rest : ℕ = cell * n + rem - first * n in
    let least : first * n ≤ cell * n = mul-le first n cell n begun (omega arith) in
    let most : suc cell * n ≤ (first + cycles) * n = mul-le (suc cell) n (first + cycles) n inside (omega arith) in
    let following = index_after front (shut ∷ back) (cell * n + rem) rest (omega (arith, least, before)) in
    let within : rest < cycles * n = omega (arith, least, most, small) in
    let index : index_in entries (cell * n + rem) ≡ length front =
    ap (λ (xs : List StreamEntry). index_in xs (cell * n + rem)) here ∙ omega (arith, following, index_first shut back rest within) in
    record {
      entry = shut;
      in_force = ap (λ (xs : List StreamEntry). slice_get xs (index_in entries (cell * n + rem))) here
          ∙ slice_get_after front shut back (index_in entries (cell * n + rem)) index;
      shut = refl;
    }
