-- What the links hold of streams and have left, as a text.
use Rattle.std.specs.Prelude.{ℕ, ◌-◌, ◌*◌, ◌/◌, ◌%◌, ◌++◌, List, [], ◌∷◌, if◌then◌else◌, codes, decimal, length, nat_le, suc, zero}
use Rattle.cqf_lists.specs.Lists.{each_below}
use Rattle.cqf_model.specs.declared.topology.Row.{Row}
use Rattle.cqf_model.specs.Domain.{Domain, budget}
use Rattle.cqf_admission.specs.Costs.{most_cost}
use Rattle.cqf_topology.specs.NodeNames.{name_of_link}
use Rattle.cqf_report.specs.Records.{Fields}
use Rattle.cqf_report.specs.Written.{line_of_fields}
use Rattle.cqf_program_plans.specs.Load.Fitting.{fits_on, rate_on, streams_on}

-- what is left of a budget, negative if more is held
abbrev pub left_text : ℕ → ℕ → List ℕ
left_text budget held = if nat_le held budget then decimal (budget - held) else 45 ∷ decimal (held - budget)

-- thousandths as a percentage with one decimal
abbrev pub percentage_text : ℕ → List ℕ
percentage_text thousandths = decimal (thousandths / 10) ++ 46 ∷ decimal (thousandths % 10)

-- the share of a budget that is held, rounded down; empty for a budget of 0
abbrev pub used_text : ℕ → ℕ → List ℕ
used_text zero held = []
used_text (suc rest) held = percentage_text (1000 * held / suc rest)

-- the header of the table
abbrev pub load_header : Fields
load_header =
    codes "link" ∷ codes "rate" ∷ codes "budget" ∷ codes "held" ∷ codes "left" ∷ codes "fits" ∷ codes "streams" ∷ codes "used" ∷ []

-- the fields of a link: its name, its rate, its budget, the most held in a cycle and what is left then, the greatest reservation that fits,
-- the number of streams, and the share used
abbrev pub load_fields : Domain → List Row → ℕ → Fields
load_fields d rows l =
    name_of_link d l ∷ decimal (rate_on d l) ∷ decimal (budget d l) ∷ decimal (most_cost rows l) ∷ left_text (budget d l) (most_cost rows l)
    ∷ decimal (fits_on d rows l) ∷ decimal (streams_on rows l) ∷ used_text (budget d l) (most_cost rows l) ∷ []

-- one line per link, for the first links by number
abbrev pub lines_of_links : Domain → List Row → ℕ → List ℕ
lines_of_links d rows links = each_below (λ l. line_of_fields (load_fields d rows l)) links

-- the header, and then one line per link, by number
abbrev pub load_text : Domain → List Row → List ℕ
load_text d rows = line_of_fields load_header ++ lines_of_links d rows (length d.links)
