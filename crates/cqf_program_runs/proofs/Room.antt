-- One offer has no more deliveries than its tree has hops.
use Rattle.std.proofs.Common.{◌≡◌, ◌<◌, ◌≤◌, ℕ, Bool, List, ap, arith, filter, length, map, take}
use Rattle.std.proofs.lemmas.List.{length-map, length-take-le}
use Rattle.std.proofs.lemmas.List.Sums.{count_by-le-length, length-filter}

-- a list of items made from the first k elements has at most k items
pub few_listed : {X Y : Type 0} (p : X → Bool) (f : X → Y) (xs : List X) (k : ℕ) (listed : List Y) → k < length xs → length xs ≤ 200 →
    listed ≡ map f (filter p (take k xs)) → length listed < 200
few_listed p f xs k listed within few is =
    omega (
      arith,
      ap length is,
      length-map (filter p (take k xs)) f,
      length-filter p (take k xs),
      count_by-le-length p (take k xs),
      length-take-le k xs (omega (arith, within)),
      within,
      few,
    )
