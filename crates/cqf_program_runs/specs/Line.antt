-- The smallest network: one bridge, one station, the link from one to the other, and one stream.
pub mod Output
pub mod Written
use Rattle.std.specs.Prelude.{ℕ, List, [], ◌∷◌, None, codes}
use Rattle.cqf_units.specs.declared.timing.Rate.TheVariants.{Mb1000}
use Rattle.cqf_lists.specs.Lists.{each_below}
use Rattle.cqf_model.specs.declared.frames.Offer.{Offer}
use Rattle.cqf_model.specs.declared.topology.Hop.{Hop}
use Rattle.cqf_model.specs.declared.topology.Link.{Link}
use Rattle.cqf_model.specs.declared.topology.Node.TheVariants.{Station}
use Rattle.cqf_model.specs.declared.topology.Row.{Row}
use Rattle.cqf_model.specs.Domain.{Domain}
use Rattle.cqf_model.specs.History.{Admits, Asked}
use Rattle.cqf_model.specs.Limits.{profile}
use Rattle.cqf_model.specs.Paces.{each_cycle}
use Rattle.cqf_program_scenario.specs.Scenario.{Scenario}

-- the link from bridge a to station s: 1,000 Mb/s, with a delay of 500 ns
abbrev pub line_link : Link
line_link = record { from = 0; to = Station 0; rate = Mb1000; delay = 500; least = 500; guard = None }

-- the domain: a cycle time of 125,000 ns, a guard band of 5,000 ns, and one clock
abbrev pub line_domain : Domain
line_domain = record {
  limits = profile;
  cycle_time = 125000;
  guard = 5000;
  sync = 0;
  overhead = 0;
  bridges = codes "a" ∷ [];
  stations = codes "s" ∷ [];
  links = line_link ∷ [];
}

-- the request: the stream x with 1,500 octets per cycle, from bridge a to station s
abbrev pub line_asked : Asked
line_asked = record { name = codes "x"; octets = 1500; every = 1; phase = 0; paths = (codes "a" ∷ codes "s" ∷ []) ∷ [] }

-- the scenario of some offers: seat 0 admits the stream before cycle 0, seat 1 closes the cycles, and there are no
-- background frames
abbrev pub line_scenario : List Offer → Scenario
line_scenario offers = record { domain = line_domain; calls = (0, Admits line_asked) ∷ []; sealer = 1; offers = offers; background = [] }

-- the one hop of the stream's tree
abbrev pub line_hop : Hop
line_hop = record { link = 0; hop_number = 1; from = None }

-- the stream's row: 1,500 octets per cycle on that link, live in every cycle
abbrev pub line_row : Row
line_row = record { no = 0; name = codes "x"; octets = 1500; overhead = 0; pace = each_cycle; tree = record { items = line_hop ∷ [] }; admitted = record { 0 = 0 }; withdrawn = None }

-- the tables of the first cycles: the stream, and no other, is held in each
abbrev pub line_tables : ℕ → List (List Row)
line_tables cycles = each_below (λ _. (line_row ∷ []) ∷ []) cycles
