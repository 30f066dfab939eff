-- Words that occur more than once.
use Rattle.std.specs.Prelude.{ℕ, ◌≡◌, ◌<◌, Bool, List, [], false, length, slice_index_or, take}
use Rattle.std.specs.List.{list_any}
use Rattle.cqf_model.specs.Domain.{is_text}

-- whether the word at an index occurs earlier in the list
abbrev pub is_taken_at : List (List ℕ) → ℕ → Bool
is_taken_at words index = list_any (λ (other : List ℕ). is_text other (slice_index_or words index [])) (take index words)

-- a mark for each word: whether it occurs earlier
pub record AreTaken (words : List (List ℕ)) (taken : List Bool) : Type 0 where
  pub one_each : length taken ≡ length words
  pub each : (index : ℕ) → index < length words → slice_index_or taken index false ≡ is_taken_at words index
