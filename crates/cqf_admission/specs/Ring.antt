-- The ring of 128 slots by end cycle.
use Rattle.std.specs.Prelude.{ℕ, ◌≡◌, ◌≢◌, ◌+◌, ◌<◌, ◌%◌, List, [], Bool, false, ◌==◌, ◌&&◌, AllPairs, Contains, length, slice_index_or}
use Rattle.std.specs.Option.{option_map_or}
use Rattle.std.specs.List.{list_any}
use Rattle.cqf_model.specs.Table.{residence}
use Rattle.cqf_units.specs.declared.reservations.Cycle.{Cycle}
use Rattle.cqf_admission.specs.Holdings.{Standing}

-- whether a stream is held, is withdrawn, and ends in a cycle of this slot
abbrev pub in_slot : ℕ → Standing → Bool
in_slot slot stand = stand.held && option_map_or (λ (w : Cycle). (w.0 + residence stand.row) % 128 == slot) stand.row.withdrawn false

-- each slot lists exactly the numbers of the streams that are held and end in a cycle of the slot, each once
pub record IsRing (stands : List Standing) (slots : List (List ℕ)) : Type 0 where
  pub as_many : length slots ≡ 128
  pub lists : (slot number : ℕ) (d : Standing) → slot < 128 → number < length stands →
      list_any (λ other. other == number) (slice_index_or slots slot []) ≡ in_slot slot (slice_index_or stands number d)
  pub inside : (slot number : ℕ) → slot < 128 → Contains (slice_index_or slots slot []) number → number < length stands
  pub once : (slot : ℕ) → slot < 128 → AllPairs (λ (a b : ℕ). a ≢ b) (slice_index_or slots slot [])
