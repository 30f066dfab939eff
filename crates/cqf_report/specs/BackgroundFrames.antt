-- Background frames as a text.
use Rattle.std.specs.Prelude.{ℕ, List, [], ◌∷◌, Option, Some, None, Result, codes, if◌then◌else◌}
use Rattle.cqf_units.specs.Name.{is_name}
use Rattle.cqf_model.specs.declared.frames.Background.{Background}
use Rattle.cqf_model.specs.declared.topology.Node.{Node}
use Rattle.cqf_model.specs.Domain.{Domain, node_named}
use Rattle.cqf_model.specs.History.{link_from}
use Rattle.cqf_text.specs.Decimal.{decimal_in}
use Rattle.cqf_report.specs.Records.{Fields}
use Rattle.cqf_model.specs.Limits.{rows_within}
use Rattle.cqf_report.specs.Table.{in_five, table_read}
use Rattle.cqf_report.specs.declared.tables.TableFault.{TableFault}

-- the fields of the header
abbrev pub background_header : Fields
background_header = codes "at" ∷ codes "from" ∷ codes "to" ∷ codes "class" ∷ codes "octets" ∷ []

-- the node with a name. A text that doesn't have the form of a name names no node
abbrev pub node_in : Domain → List ℕ → Option Node
node_in d name = if is_name name then node_named d name else None

-- the link from one node to another, given their names
abbrev pub link_named : Domain → List ℕ → List ℕ → Option ℕ
link_named d from to = link_from d (node_in d from) (node_in d to)

-- the background frame, if all of its parts are there
abbrev pub background_with : Option ℕ → Option ℕ → Option ℕ → Option ℕ → Option Background
background_with None link class octets = None
background_with (Some at) None class octets = None
background_with (Some at) (Some link) None octets = None
background_with (Some at) (Some link) (Some class) None = None
background_with (Some at) (Some link) (Some class) (Some octets) =
    Some (record { at = record { 0 = at }; link = link; class = class; octets = octets })

-- the background frame that five fields write: an instant before 1,000,000,000,000, a link of the domain by the names of its ends, a class
-- that no stream has, and a size that Ethernet allows (IEEE 802.3)
abbrev pub background_of_table : Domain → List ℕ → List ℕ → List ℕ → List ℕ → List ℕ → Option Background
background_of_table d at from to class octets =
    background_with (decimal_in 0 999999999999 at) (link_named d from to) (decimal_in 0 5 class) (decimal_in 64 1522 octets)

-- the instant from which a background frame waits
abbrev pub background_instant : Background → ℕ
background_instant frame = frame.at.0

-- the background frames that a text writes, in order, or its first fault
abbrev pub background_frames_of : Domain → List ℕ → Result (List Background) TableFault
background_frames_of d text = table_read (rows_within d.limits) background_header (in_five (background_of_table d)) background_instant text
