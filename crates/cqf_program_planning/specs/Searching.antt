-- The contracts of inner functions about orders that are tried.
use Rattle.std.specs.Prelude.{ℕ, ◌≡◌, List, [], Option, Some, None, is_err, true}
use Rattle.cqf_admission.specs.ActiveCycles.{AreOfGoodPaces}
use Rattle.cqf_laws_history.specs.StateLaws.{AreHeld}
use Rattle.cqf_model.specs.declared.topology.Row.{Row}
use Rattle.cqf_model.specs.Domain.{Domain}
use Rattle.cqf_model.specs.History.{Asked}
use Rattle.cqf_network.specs.NetworkDomain.{NetworkDomain, domain_at}
use Rattle.cqf_program_plans.specs.Compile.Output.{HoldsAll, admitted_from}
use Rattle.cqf_program_placing.specs.Placing.{PlacedStreams}
use Rattle.cqf_program_placing.specs.Settled.{SettledStream}
use Rattle.cqf_program_planning.specs.declared.trying.Tried.{Tried}
use Rattle.cqf_program_planning.specs.Orders.{AreRunIn, IsSearched, good_in, next_order}
use Rattle.cqf_program_planning.specs.Trying.{IsTriedBy}

-- the verdict on streams, if they are placed so
abbrev pub IsFoundTried : List SettledStream → Option PlacedStreams → Option Tried → Type 0
IsFoundTried streams None None = Unit {0}
IsFoundTried streams None (Some tried) = ⊥
IsFoundTried streams (Some placed) None = ⊥
IsFoundTried streams (Some placed) (Some tried) = IsTriedBy streams placed tried

-- the rows of streams that are all admitted before cycle 0; or one of them is refused
pub record AreHeldRows (d : Domain) (streams : List Asked) (rows : List Row) : Type 0 where
  pub held : HoldsAll d streams rows
  pub sound : (next : ℕ) × AreHeld d rows next 0
  pub good : AreOfGoodPaces rows

abbrev pub AreRowsOf : Domain → List Asked → Option (List Row) → Type 0
AreRowsOf d streams None = is_err (admitted_from d [] 1 streams) ≡ true
AreRowsOf d streams (Some rows) = AreHeldRows d streams rows

-- streams are placed on a cycle time in an order: the verdict on them, if they are good so; and the order after it
pub record ComesOfRun (network : NetworkDomain) (streams : List SettledStream) (cycle_time : ℕ) (order : List ℕ) (found : Option Tried) (next : Option (List ℕ))
    : Type 0 where
  pub run : PlacedStreams
  pub is_run : AreRunIn network streams cycle_time order run
  pub good : IsFoundTried streams (good_in (domain_at network cycle_time) streams order run.outcomes) found
  pub next_is : next ≡ next_order streams order run.outcomes

-- the verdict on what is found in the orders from one on
pub record IsSearchedTried (network : NetworkDomain) (streams : List SettledStream) (cycle_time tries : ℕ) (next : Option (List ℕ)) (tried : Option Tried) : Type 0 where
  pub found : Option PlacedStreams
  pub is_found : IsSearched network streams cycle_time tries next found
  pub tried_is : IsFoundTried streams found tried
