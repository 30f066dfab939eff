-- The frame that is lost inside.
use Rattle.std.specs.Prelude.{ℕ, ◌≡◌, ◌<◌, Contains, List, Option, Some, None, length}
use Rattle.cqf_model.specs.Network.{IsLoss, Network}
use Rattle.cqf_model.specs.Run.{Run}
use Rattle.cqf_model.specs.Policing.{Policed}
use Rattle.cqf_laws_cycle.specs.BridgeCycle.{policed_of}
use Rattle.cqf_plain.specs.declared.faults.RunFault.{RunFault}
use Rattle.cqf_plain.specs.declared.faults.RunFault.TheVariants.{WrongTables, Inside, Memory}
use Rattle.cqf_plain.specs.Driven.{FirstLoseNothing}
use Rattle.cqf_plain.specs.Run.{IsFirstLoss}

-- the frame of this number is the first one that is lost among some; without a number, none is lost
pub record IsFirstLost (policed : List Policed) (frame : ℕ) : Type 0 where
  pub x : Policed
  pub first : IsFirstLoss policed x
  pub is_frame : x.received.frame ≡ frame

abbrev pub NoneIsLost : List Policed → Type 0
NoneIsLost policed = (p : Policed) → Contains policed p → ¬ IsLoss p.verdict

abbrev pub IsLossFound : List Policed → Option ℕ → Type 0
IsLossFound policed None = NoneIsLost policed
IsLossFound policed (Some frame) = IsFirstLost policed frame

-- the frame is lost in the cycle at the bridge, which loses none before it
abbrev pub IsLostAt : Run → Network → ℕ → ℕ → ℕ → Type 0
IsLostAt run net cycle bridge frame = IsFirstLost (policed_of run net.carried bridge cycle) frame

-- why a bridge doesn't receive the cycle
abbrev pub IsFaultAtBridge : Run → Network → ℕ → ℕ → RunFault → Type 0
IsFaultAtBridge run net cycle bridge WrongTables = ⊥
IsFaultAtBridge run net cycle bridge (Inside frame) = IsLostAt run net cycle bridge frame
IsFaultAtBridge run net cycle bridge Memory = Unit {0}

-- the frame is the first that is lost in the cycle
pub record IsLostAmong (run : Run) (net : Network) (cycle frame : ℕ) : Type 0 where
  pub bridge : ℕ
  pub inside : bridge < length run.domain.bridges
  pub lost : IsLostAt run net cycle bridge frame
  pub none_lower : FirstLoseNothing run net cycle bridge

-- why not all bridges receive it
abbrev pub IsFaultInCycle : Run → Network → ℕ → RunFault → Type 0
IsFaultInCycle run net cycle WrongTables = ⊥
IsFaultInCycle run net cycle (Inside frame) = IsLostAmong run net cycle frame
IsFaultInCycle run net cycle Memory = Unit {0}
