-- The cycles of a stream's pace, and what is reserved in them.
use Rattle.std.proofs.Common.{◌≡◌, ℕ, ◌+◌, ◌<◌, ◌≤◌, ◌%◌, Bool, true, false, sym, ap, ◌∙◌, inl, inr, arith, eq-eqb, eqb-true, zero-add}
use Rattle.std.specs.Prelude.{if◌then◌else◌}
use Rattle.std.proofs.Math.Nat.{mod-add-mod}
use Rattle.std.proofs.lemmas.Bool.{cases_Bool, cond-false, cond-true}
use Rattle.cqf_model.specs.declared.topology.Pace.{Pace}
use Rattle.cqf_model.specs.declared.topology.Row.{Row}
use Rattle.cqf_model.specs.Paces.{is_active}
use Rattle.cqf_model.specs.Table.{reserved_in}

-- with a greater hop number it is a stream's active cycle as many cycles later
pub active_cycle_on : (pace : Pace) (hop_number cycle more : ℕ) → is_active pace hop_number cycle ≡ true → is_active pace (hop_number + more) (cycle + more) ≡ true
active_cycle_on pace hop_number cycle more t =
    let m = pace.pause + 1 in
    let apart : pace.phase + (hop_number + more) ≡ pace.phase + hop_number + more = omega arith in
    eq-eqb ((pace.phase + (hop_number + more)) % m) ((cycle + more) % m)
    (ap (λ z. z % m) apart
    ∙ sym (mod-add-mod (pace.phase + hop_number) m more)
    ∙ ap (λ z. (z + more) % m) (eqb-true ((pace.phase + hop_number) % m) (cycle % m) t)
    ∙ mod-add-mod cycle m more)

-- it is a stream's active cycle at a hop number as many cycles after a cycle of its offers
pub active_cycle_along : (pace : Pace) (hop_number cycle : ℕ) → is_active pace 0 cycle ≡ true → is_active pace hop_number (cycle + hop_number) ≡ true
active_cycle_along pace hop_number cycle t = ap (λ k. is_active pace k (cycle + hop_number)) (sym (zero-add hop_number)) ∙ active_cycle_on pace 0 cycle hop_number t

-- at most the reservation is reserved in a cycle
pub reserved_within : (row : Row) (hop_number cycle : ℕ) → reserved_in row hop_number cycle ≤ row.octets
reserved_within row hop_number cycle = by_active_cycle (is_active row.pace hop_number cycle)
  where
    -- in its turn and in other cycles
    by_active_cycle : (b : Bool) → (if b then row.octets else 0) ≤ row.octets
    by_active_cycle true = omega arith
    by_active_cycle false = omega arith

-- if something is reserved, it is the stream's active cycle
pub reserved_active_cycle : (row : Row) (hop_number cycle : ℕ) → 0 < reserved_in row hop_number cycle → is_active row.pace hop_number cycle ≡ true
reserved_active_cycle row hop_number cycle some = elim (cases_Bool (is_active row.pace hop_number cycle)) [
  | inl t ↦ t
  | inr f ↦ absurd (omega (arith, some, cond-false (is_active row.pace hop_number cycle) row.octets 0 f))
]

-- and then it is the whole reservation
pub reserved_whole : (row : Row) (hop_number cycle : ℕ) → is_active row.pace hop_number cycle ≡ true → reserved_in row hop_number cycle ≡ row.octets
reserved_whole row hop_number cycle t = cond-true (is_active row.pace hop_number cycle) row.octets 0 t
