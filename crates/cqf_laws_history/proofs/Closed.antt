-- A Seal keeps its index when entries follow, and so does the table that it closes.
use Rattle.std.proofs.Common.{◌≡◌, ℕ, ◌+◌, ◌<◌, Bool, cond, List, length, get_or, ap, ◌∙◌, inl, inr, arith, length-append}
use Rattle.std.specs.Prelude.{[], ◌∷◌, ◌++◌, take, suc}
use Rattle.std.proofs.lemmas.Bool.{cases_lt}
use Rattle.std.proofs.lemmas.List.{take-append-le}
use Rattle.cqf_model.specs.History.{Recorded, held_in, seal_indices, seals}
use Rattle.cqf_laws_history.proofs.Growth.{seals_are_counted}
use Rattle.cqf_lists.proofs.Indices.{slice_get_front}
use Rattle.cqf_laws_history.proofs.Indices.{SealAt, seal_at, sealed-suc, sealed_before, sealed_more}
use Rattle.cqf_laws_history.specs.TableLaws.{ClosedTablesStay}

-- no later Seal closes the same cycle
no_later_seal : (entries : List Recorded) (cycle index later : ℕ) → SealAt entries cycle index → SealAt entries cycle later → index < later → ⊥
no_later_seal entries cycle index later a b h =
    let one_more : sealed_before entries (suc index) ≡ sealed_before entries index + 1 =
    sealed-suc entries index a.entry a.is ∙ ap (λ (x : Bool). sealed_before entries index + cond x 1 0) a.seal in
    let early = sealed_more entries (suc index) later (omega (arith, h)) (omega (arith, b.inside)) in
    omega (arith, one_more, early, a.before, b.before)

-- one Seal closes a cycle
one_seal : (entries : List Recorded) (cycle index other : ℕ) → SealAt entries cycle index → SealAt entries cycle other → index ≡ other
one_seal entries cycle index other a b =
    elim (cases_lt index other) [
      | inl l ↦ absurd (no_later_seal entries cycle index other a b l)
      | inr g ↦ elim (cases_lt other index) [
        | inl l ↦ absurd (no_later_seal entries cycle other index b a l)
        | inr k ↦ omega (arith, g, k)
      ]
    ]

-- a Seal stays where it is
seal_stays : (entries more : List Recorded) (cycle index : ℕ) → SealAt entries cycle index → SealAt (entries ++ more) cycle index
seal_stays entries more cycle index a =
    record {
      inside = omega (arith, a.inside, length-append entries more);
      entry = a.entry;
      is = slice_get_front entries more index a.inside ∙ a.is;
      seal = a.seal;
      before = ap seals (take-append-le index entries more (omega (arith, a.inside))) ∙ a.before;
    }

-- a closed table stays
pub closed_stay : ClosedTablesStay
closed_stay d entries seat act reply cycle h =
    let e : Recorded = record { seat = seat; act = act; reply = reply } in
    let all = entries ++ e ∷ [] in
    let index = get_or (seal_indices entries) cycle (length entries) in
    let here : SealAt entries cycle index = seal_at entries cycle h in
    let there = seal_at all cycle (omega (arith, h, seals_are_counted entries seat act reply)) in
    let same = one_seal all cycle (get_or (seal_indices all) cycle (length all)) index there (seal_stays entries (e ∷ []) cycle index here) in
    ap (λ (k : ℕ). held_in d (take k all) cycle) same
    ∙ ap (λ (xs : List Recorded). held_in d xs cycle) (take-append-le index entries (e ∷ []) (omega (arith, here.inside)))
