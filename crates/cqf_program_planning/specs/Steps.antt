-- The contracts of inner functions about streams, and about a candidate's line.
use Rattle.std.specs.Prelude.{ℕ, ◌≡◌, ◌<◌, ◌≤◌, List, [], ◌∷◌, All, Option, decimal, length, map}
use Rattle.std.specs.Option.{option_map_or}
use Rattle.cqf_model.specs.History.{Asked}
use Rattle.cqf_model.specs.Limits.{most_every, most_streams}
use Rattle.cqf_network.specs.NetworkDomain.{NetworkDomain}
use Rattle.cqf_traffic.specs.FlowsText.{FlowText}
use Rattle.cqf_program_placing.specs.Placing.{PlacedOr, Placed, Unplaced}
use Rattle.cqf_program_placing.specs.Settled.{IsPlaceable, SettledStream, open_domain}
use Rattle.cqf_program_plans.specs.Load.Text.{percentage_text}
use Rattle.cqf_report.specs.Records.{Fields}
use Rattle.cqf_program_planning.specs.declared.candidates.Candidate.{Candidate}
use Rattle.cqf_program_planning.specs.Choosing.{candidate_fault_text}
use Rattle.cqf_program_planning.specs.Judging.{flow_of}
use Rattle.cqf_program_planning.specs.TableText.{slack_text, stream_of_slack}

-- settled streams of a network file
pub record AreSettled (network : NetworkDomain) (streams : List SettledStream) : Type 0 where
  pub few : length streams ≤ most_streams
  pub placeable : All (IsPlaceable (open_domain network)) streams

-- each of these streams has a flow, which is offered in one of some cycles
pub record IsTurned (flow : FlowText) : Type 0 where
  pub some : 0 < flow.0.0.every
  pub few : flow.0.0.every ≤ most_every

pub record AreTurned (streams : List SettledStream) (flows : List FlowText) : Type 0 where
  pub each : length flows ≡ length streams
  pub turned : All IsTurned flows

-- a stream with its request, if it is placed; as the plan has it; and its deadline
abbrev pub those_by : SettledStream → PlacedOr → List (SettledStream × Asked)
those_by stream (Placed asked) = (stream, asked) ∷ []
those_by stream (Unplaced found) = []

abbrev pub flows_by : ℕ → SettledStream → PlacedOr → List FlowText
flows_by cycle_time stream become = map (λ (one : SettledStream × Asked). flow_of cycle_time one.0 one.1) (those_by stream become)

abbrev pub deadlines_by : SettledStream → PlacedOr → List (Option ℕ)
deadlines_by stream become = map (λ (one : SettledStream × Asked). one.0.deadline) (those_by stream become)

-- the two halves of a candidate's fields: what is placed and held; and how tight deadlines are
abbrev pub held_fields : ℕ → Candidate → Fields
held_fields streams candidate =
    decimal candidate.cycle_time ∷ decimal candidate.placed ∷ decimal streams ∷ option_map_or percentage_text candidate.used [] ∷ []

abbrev pub tight_fields : Candidate → Fields
tight_fields candidate =
    decimal candidate.late ∷ stream_of_slack candidate.tightest ∷ slack_text candidate.tightest ∷ option_map_or candidate_fault_text candidate.fault [] ∷ []
