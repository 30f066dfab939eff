-- What a request asks for.
use Rattle.std.specs.Arc.{arc_value}
use Rattle.std.specs.Prelude.{ℕ, List, string_bytes}
use Rattle.std.specs.declared.alloc.Global.{Global}
use Rattle.std.specs.declared.sync.Arc.{Arc}
use Rattle.cqf_topology.specs.declared.streams.Request.{Request}
use Rattle.cqf_topology.specs.declared.paced.PacedRequest.{PacedRequest}
use Rattle.cqf_topology.specs.PacedText.{PacedText}
use Rattle.cqf_model.specs.History.{Asked, Branch}
use Rattle.cqf_admission.specs.Branches.{branches_of}

-- a request with this name, reservation, pace and branches
abbrev pub asked_with : List ℕ → ℕ → ℕ → ℕ → List Branch → Asked
asked_with name octets every phase paths = record { name = name; octets = octets; every = every; phase = phase; paths = paths }

-- what a request without a pace asks for: a stream that is offered in each cycle
abbrev pub asked_of : Request → Asked
asked_of request = asked_with (string_bytes request.name) request.octets 1 0 (branches_of request.paths.items)

-- what a request with a pace asks for: a stream that is offered in one of every `every` cycles, first in the cycle `phase`
abbrev pub asked_paced : PacedRequest → Asked
asked_paced request = asked_with (string_bytes request.name) request.octets request.every request.phase (branches_of request.paths.items)

-- the same for a request that calls share
abbrev pub asked_shared : Arc PacedRequest Global → Asked
asked_shared request = asked_paced (arc_value request)

-- what the text of a request asks for
abbrev pub asked_by : PacedText → Asked
asked_by text = asked_with text.name text.octets text.every text.phase text.paths
