-- Sums by link.
use Rattle.std.specs.Prelude.{ℕ, ◌≡◌, ◌+◌, ◌<◌, ◌^◌, ◌==◌, List, if◌then◌else◌, length, slice_index_or}
use Rattle.std.specs.List.{list_any}

-- what is added to the sum of a link: the number, if it is one of the links
abbrev pub part_on : List ℕ → ℕ → ℕ → ℕ
part_on links number l = if list_any (λ k. k == l) links then number else 0

-- the number can be added to the sum of each of the links
abbrev pub HaveRoomOn : List ℕ → List ℕ → ℕ → Type 0
HaveRoomOn sums links number = (l : ℕ) → l < length sums → slice_index_or sums l 0 + part_on links number l < 2 ^ 64

-- the sums with the number added on each of the links
pub record AreMoreOn (sums links : List ℕ) (number : ℕ) (after : List ℕ) : Type 0 where
  pub as_many : length after ≡ length sums
  pub each : (l : ℕ) → l < length sums → slice_index_or after l 0 ≡ slice_index_or sums l 0 + part_on links number l
