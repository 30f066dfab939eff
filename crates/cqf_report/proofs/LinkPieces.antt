-- Sums over lists that are taken piece by piece.
use Rattle.std.proofs.Common.{◌≡◌, ℕ, ◌+◌, ◌*◌, ◌^◌, ◌≤◌, List, length}

-- the sum so far is that of the items before the rest, and it leaves room for 2^64 for each of the remaining items
pub record IsSoFar {X : Type 0} (of : List X → ℕ) (items rest : List X) (so_far : ℕ) : Type 0 where
  pub value : so_far + of rest ≡ of items
  pub room : so_far + length rest * 2 ^ 64 ≤ length items * 2 ^ 64
