-- The order in which a bridge takes the frames of a cycle, by the frames alone.
use Rattle.std.specs.Prelude.{ℕ, ◌≡◌, ◌<◌, ◌⊎◌, AllPairs, Bool, true, List, filter}
use Rattle.std.specs.List.Sorted.{IsPermutation}
use Rattle.cqf_model.specs.Book.{batch}
use Rattle.cqf_model.specs.Domain.{enters}
use Rattle.cqf_model.specs.Network.{Network}
use Rattle.cqf_model.specs.Run.{Run}
use Rattle.cqf_model.specs.Policing.{AtEdge, Carried, Ingress, Received, Relayed}
use Rattle.cqf_laws_cycle.specs.BridgeCycle.{IsCompiledNetwork, received_in}
use Rattle.cqf_laws_cycle.specs.Gathered.{gathered_in}

-- the number of the link by which a frame came. An offer comes after every link; a domain has at most 4096 links
abbrev pub source_of : Ingress → ℕ
source_of (AtEdge name) = 4096
source_of (Relayed m number) = m

-- a frame is taken before another: it arrives fully sooner; or at the same instant it came by a link of a lower number; or from the
-- same source it has the lower number itself
abbrev pub IsTakenBefore : Received → Received → Type 0
IsTakenBefore a b =
    (a.at < b.at)
    ⊎ ((a.at ≡ b.at)
    × ((source_of a.ingress < source_of b.ingress) ⊎ ((source_of a.ingress ≡ source_of b.ingress) × (a.frame < b.frame))))

-- what arrives at a bridge in a cycle is in this order, and no two of its frames tie
abbrev pub CycleIsTakenInOrder : Type 0
CycleIsTakenInOrder = (run : Run) (cycles cycle bridge : ℕ) (net : Network) →
    IsCompiledNetwork run cycles net → AllPairs IsTakenBefore (received_in run net.carried bridge cycle)

-- no frame precedes one that is taken before it
abbrev pub StandAsTaken : List Received → Type 0
StandAsTaken sorted = AllPairs (λ (a b : Received). ¬ IsTakenBefore b a) sorted

-- the links carry to the bridge exactly what they send in the cycle
abbrev pub AreItsBatches : Run → Network → ℕ → ℕ → Carried → Type 0
AreItsBatches run net bridge cycle batches =
    (m : ℕ) → enters run.domain m bridge ≡ true → batches m ≡ batch run.domain net.carried m cycle

-- so if the frames gathered for a bridge in a cycle that pass a test are brought into this order by any sort, they are in the order
-- in which they are taken
abbrev pub SortedIsTaken : Type 0
SortedIsTaken = (run : Run) (cycles cycle bridge : ℕ) (net : Network) (batches : Carried) (passes : Received → Bool) (sorted : List Received) →
    IsCompiledNetwork run cycles net → AreItsBatches run net bridge cycle batches →
    IsPermutation (filter passes (gathered_in run batches bridge cycle)) sorted → StandAsTaken sorted →
    sorted ≡ filter passes (received_in run net.carried bridge cycle)
