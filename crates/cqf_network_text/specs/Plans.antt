-- The text of a plan, and what each command reads in it.
use Rattle.std.specs.Prelude.{ℕ, ◌≡◌, ◌≤◌, false, true, List, map, Some, Ok, All, IfSome}
use Rattle.std.specs.Str.{is_utf8}
use Rattle.toml.specs.Data.{Members}
use Rattle.toml.specs.Parse.{parse_document}
use Rattle.toml.specs.Text.{IsDocumentText}
use Rattle.cqf_model.specs.Domain.{Domain}
use Rattle.cqf_topology.specs.DomainText.{IsDomain, domain_within}
use Rattle.cqf_topology.specs.PacedText.{PacedText, paced_of_text}
use Rattle.cqf_topology.specs.PlannedText.{planned_of_text}
use Rattle.cqf_topology.specs.StreamsText.{RequestText, streams_of_text}
use Rattle.cqf_traffic.specs.FlowsText.{FlowText, flows_of_text}
use Rattle.cqf_traffic.specs.declared.keys.TrafficKey.{TrafficKey}
use Rattle.cqf_traffic.specs.declared.keys.TrafficKey.TheVariants.{Interval, Frames, Size, Jitter, Offset}
use Rattle.cqf_traffic.specs.Keys.{least_of, most_of}
use Rattle.cqf_traffic.specs.TrafficText.{TrafficText}
use Rattle.cqf_network_text.specs.DomainMembers.{domain_members}
use Rattle.cqf_network_text.specs.StreamMembers.{streams_data}

-- a plan's table: a domain and its streams
abbrev pub plan_members : Domain → List FlowText → Members
plan_members d flows = domain_members d (streams_data flows)

-- a text is that of a plan: it is UTF-8, it writes the plan's table, and as TOML it parses to exactly that table
pub record IsWrittenPlan (d : Domain) (flows : List FlowText) (text : List ℕ) : Type 0 where
  pub encoded : is_utf8 text ≡ true
  pub written : IsDocumentText false (plan_members d flows) text
  pub document : parse_document text ≡ Some (plan_members d flows)

-- a number that a text may have at a key of traffic, and traffic in which each number is one
pub record IsExpressibleNumber (key : TrafficKey) (n : ℕ) : Type 0 where
  pub least : least_of key ≤ n
  pub most : n ≤ most_of key

pub record IsExpressibleTraffic (t : TrafficText) : Type 0 where
  pub interval : IsExpressibleNumber Interval t.interval
  pub frames : IsExpressibleNumber Frames t.frames
  pub size : IsExpressibleNumber Size t.size
  pub jitter : IsExpressibleNumber Jitter t.jitter
  pub offset : IsExpressibleNumber Offset t.offset

-- a stream's numbers fit in a text: each is at most 2^32 - 1, a deadline is at least 1, and traffic is in its ranges
pub record IsExpressible (flow : FlowText) : Type 0 where
  pub octets : flow.0.0.octets ≤ 4294967295
  pub every : flow.0.0.every ≤ 4294967295
  pub phase : flow.0.0.phase ≤ 4294967295
  pub deadline : IfSome flow.0.1 (λ deadline. (1 ≤ deadline) × (deadline ≤ 4294967295))
  pub traffic : IfSome flow.1 IsExpressibleTraffic

-- a request without its cycles: its name, octets and branches
abbrev pub unpaced : PacedText → RequestText
unpaced request = record { name = request.name; octets = request.octets; paths = request.paths }

-- a text reads as a plan: as its domain, and as its streams by each reader: with deadlines and traffic, with deadlines
-- only, as requests with their cycles, and as requests without cycles
pub record ReadsAsPlan (d : Domain) (flows : List FlowText) (text : List ℕ) : Type 0 where
  pub domain_is : domain_within d.limits text ≡ Ok d
  pub flows_are : flows_of_text text ≡ Ok flows
  pub planned_are : planned_of_text text ≡ Ok (map (λ flow. flow.0) flows)
  pub paced_are : paced_of_text text ≡ Ok (map (λ flow. flow.0.0) flows)
  pub requests_are : streams_of_text text ≡ Ok (map (λ flow. unpaced flow.0.0) flows)

-- the text of an accepted domain and of streams whose numbers fit reads as exactly that domain and these streams
abbrev pub WrittenPlansReadBack : Type 0
WrittenPlansReadBack = (d : Domain) (flows : List FlowText) (text : List ℕ) → IsDomain d → All IsExpressible flows → IsWrittenPlan d flows text →
    ReadsAsPlan d flows text

-- the numbers of streams that are read from any text fit in a text
abbrev pub ReadStreamsAreExpressible : Type 0
ReadStreamsAreExpressible = (text : List ℕ) (flows : List FlowText) → flows_of_text text ≡ Ok flows → All IsExpressible flows
