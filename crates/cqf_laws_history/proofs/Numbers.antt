-- Each stream of a history has its index as its number; and what a withdrawal changes.
use Rattle.std.proofs.Common.{◌≡◌, ℕ, suc, zero, ◌+◌, ◌<◌, ◌∷◌, [], List, Option, Some, None, refl, sym, ap, ◌∙◌, arith}
use Rattle.std.proofs.Common.{length, map, if◌then◌else◌, eq-eqb, ne_eqb, option_map}
use Rattle.std.specs.Prelude.{slice_get, slice_set}
use Rattle.std.proofs.lemmas.Option.{none-some, same_Some, slice_get-map, slice_get_within}
use Rattle.cqf_model.specs.declared.topology.Row.{Row}
use Rattle.cqf_model.specs.Domain.{Domain}
use Rattle.cqf_model.specs.History.{IsLegalHistory, Recorded, streams_of}
use Rattle.cqf_laws_history.specs.StateLaws.{ended_row}
use Rattle.cqf_laws_history.proofs.Growth.{all_is, sound_now}
use Rattle.cqf_laws_history.proofs.Indices.{admitted_before, streams_front, with_end, withdrawn_before}

-- if rows are numbered by index from m on, the rows of other numbers stay
pub others_stay : (xs : List Row) (m n c : ℕ) → ((k : ℕ) (row : Row) → slice_get xs k ≡ Some row → row.no ≡ m + k) → n < m → map (ended_row n c) xs ≡ xs
others_stay [] m n c numbers below = refl
others_stay (x ∷ xs) m n c numbers below =
    (λ i. (if ne_eqb x.no n (λ e. omega (arith, e, below, numbers 0 x refl)) i then record x { withdrawn = Some (record { 0 = c }) } else x)
    ∷ map (ended_row n c) xs)
    ∙ ap (λ ys. x ∷ ys) (others_stay xs (m + 1) n c (λ k row is. omega (arith, numbers (suc k) row is)) (omega (arith, below)))

-- and the row of the number ends
pub one_ends : (xs : List Row) (m n c k : ℕ) (row : Row) → ((k : ℕ) (row : Row) → slice_get xs k ≡ Some row → row.no ≡ m + k) → n ≡ m + k →
    slice_get xs k ≡ Some row → map (ended_row n c) xs ≡ slice_set xs k (record row { withdrawn = Some (record { 0 = c }) })
one_ends [] m n c k row numbers at is = absurd (omega (arith, slice_get_within [] k row is))
one_ends (x ∷ xs) m n c zero row numbers at is =
    (λ i. (if eq-eqb x.no n (omega (arith, numbers 0 x refl, at)) i then record x { withdrawn = Some (record { 0 = c }) } else x) ∷ map (ended_row n c) xs)
    ∙ ap (λ ys. record x { withdrawn = Some (record { 0 = c }) } ∷ ys)
    (others_stay xs (m + 1) n c (λ k row is. omega (arith, numbers (suc k) row is)) (omega (arith, at)))
    ∙ ap (λ (r : Row). record r { withdrawn = Some (record { 0 = c }) } ∷ xs) (same_Some x row is)
one_ends (x ∷ xs) m n c (suc k) row numbers at is =
    (λ i. (if ne_eqb x.no n (λ e. omega (arith, e, at, numbers 0 x refl)) i then record x { withdrawn = Some (record { 0 = c }) } else x)
    ∷ map (ended_row n c) xs)
    ∙ ap (λ ys. x ∷ ys) (one_ends xs (m + 1) n c k row (λ k row is. omega (arith, numbers (suc k) row is)) (omega (arith, at)) is)

-- each stream of a legal history has its index as its number
pub numbered : (d : Domain) (entries : List Recorded) → IsLegalHistory d entries → (i : ℕ) (row : Row) → slice_get (streams_of d entries) i
    ≡ Some row → row.no ≡ i
numbered d entries legal i row is =
    let n = length entries in
    let old = admitted_before d entries n in
    let w = withdrawn_before entries n in
    let all : streams_of d entries ≡ map (with_end w) old = ap (streams_of d) (sym (all_is entries)) ∙ streams_front entries n (omega arith) d in
    by (slice_get old i) refl (sym (slice_get-map (with_end w) old i) ∙ ap (λ (xs : List Row). slice_get xs i) (sym all) ∙ is)
  where
    by : (o : Option Row) → slice_get (admitted_before d entries (length entries)) i ≡ o →
        option_map (with_end (withdrawn_before entries (length entries))) o ≡ Some row → row.no ≡ i
    by None at e = absurd (none-some row e)
    by (Some x) at e =
        sym (ap (λ (r : Row). r.no) (same_Some (with_end (withdrawn_before entries (length entries)) x) row e)) ∙ (sound_now d entries legal).numbers i x at
