-- The text of frames' starts and drops.
use Rattle.std.specs.Prelude.{ℕ, ◌++◌, List, [], ◌∷◌, codes, decimal}
use Rattle.std.specs.List.{flat_map}
use Rattle.cqf_units.specs.Timing.{ending_of}
use Rattle.cqf_model.specs.declared.frames.Dropped.{Dropped}
use Rattle.cqf_model.specs.declared.frames.Offer.{Offer}
use Rattle.cqf_model.specs.declared.frames.Started.{Started}
use Rattle.cqf_model.specs.Domain.{Domain, octet_time_of}
use Rattle.cqf_topology.specs.NodeNames.{name_of_bridge, name_of_link}
use Rattle.cqf_report.specs.Books.{name_of_reason}
use Rattle.cqf_report.specs.Records.{Fields}
use Rattle.cqf_report.specs.Written.{line_of_fields}
use Rattle.cqf_laws_timing.specs.Latency.{whole_of}
use Rattle.cqf_program_summary.specs.declared.hops.legs.Leg.{Leg}
use Rattle.cqf_program_summary.specs.declared.hops.legs.Leg.TheVariants as leg
use Rattle.cqf_program_summary.specs.Hops.Legs.{stream_of}

-- the header
abbrev pub hops_header : Fields
hops_header =
    codes "frame" ∷ codes "stream" ∷ codes "octets" ∷ codes "cycle" ∷ codes "where" ∷ codes "start" ∷ codes "end" ∷ codes "whole" ∷ codes "dropped" ∷ []

-- the instant at which a frame that starts has left its link's bridge
abbrev pub end_of_start : Domain → Started → ℕ
end_of_start d s = ending_of s.start.0 s.octets (octet_time_of d s.link)

-- the fields of a start: its link by the names of its ends, and the instants at which the frame starts, has left, and
-- is whole at the link's end
abbrev pub started_fields : Domain → List ℕ → Started → Fields
started_fields d stream s =
    decimal s.frame ∷ stream ∷ decimal s.octets ∷ decimal s.cycle.0 ∷ name_of_link d s.link
    ∷ decimal s.start.0 ∷ decimal (end_of_start d s) ∷ decimal (whole_of d s) ∷ [] ∷ []

-- the fields of a drop: its bridge, no instants, and the reason
abbrev pub dropped_fields : Domain → List ℕ → Dropped → Fields
dropped_fields d stream x =
    decimal x.frame ∷ stream ∷ decimal x.octets ∷ decimal x.cycle.0 ∷ name_of_bridge d x.bridge ∷ [] ∷ [] ∷ [] ∷ name_of_reason x.reason ∷ []

abbrev pub leg_fields : Domain → List Offer → Leg → Fields
leg_fields d offers (leg.Started started) = started_fields d (stream_of offers started.frame) started
leg_fields d offers (leg.Dropped dropped) = dropped_fields d (stream_of offers dropped.frame) dropped

-- one line for each start and each drop, in order
abbrev pub lines_of_legs : Domain → List Offer → List Leg → List ℕ
lines_of_legs d offers legs = flat_map (λ (x : Leg). line_of_fields (leg_fields d offers x)) legs

-- the text: the header, and the lines
abbrev pub text_of_legs : Domain → List Offer → List Leg → List ℕ
text_of_legs d offers legs = line_of_fields hops_header ++ lines_of_legs d offers legs
