-- The initial state of a world.
use Rattle.std.specs.Prelude.{ℕ, ◌≡◌, ◌<◌, List, [], false, length, replicate, slice_index_or}
use Rattle.cqf_model.specs.declared.frames.Background.{Background}
use Rattle.cqf_model.specs.declared.frames.Offer.{Offer}
use Rattle.cqf_model.specs.Domain.{Domain}
use Rattle.cqf_admission.specs.Admission.{Administration}
use Rattle.cqf_book.specs.Pages.{Posted}
use Rattle.cqf_agenda.specs.Agenda.{IsAgendaOf}
use Rattle.cqf_bridge.specs.BridgeState.{new_bridge}
use Rattle.cqf_agenda.specs.Links.{links_into}
use Rattle.cqf_world.specs.declared.parts.Line.{Line}
use Rattle.cqf_world.specs.declared.parts.WorldBridge.{WorldBridge}
use Rattle.cqf_world.specs.World.{WorldState}

-- no pages, for this number of bridges and cycles
abbrev pub no_pages : ℕ → ℕ → Posted
no_pages bridges cycles = record { bridges = bridges; cycles = cycles; pages = replicate bridges [] }

-- the world of an admission at its beginning: the admission's history and no page; no table was given, no cycle sent and no batch taken
abbrev pub new_world : Administration → List Offer → List Background → ℕ → WorldState
new_world admission offers background cycles = let d = admission.domain in record {
  domain = d;
  offers = offers;
  background = background;
  cycles = cycles;
  entries = admission.entries;
  pages = no_pages (length d.bridges) cycles;
  given = replicate (length d.bridges) 0;
  sent = replicate (length d.bridges) 0;
  taken = replicate (length d.links) 0;
  stopped = false;
}

-- a bridge that has done nothing, with its agenda
pub record IsNewDriven (d : Domain) (offers : List Offer) (background : List Background) (bridge : ℕ) (s : WorldBridge) : Type 0 where
  pub new : s.bridge ≡ new_bridge d bridge
  pub own : IsAgendaOf d offers background bridge s.agenda
  pub links : s.incoming ≡ length (links_into d bridge)
  pub no_table : s.given ≡ 0
  pub none_sent : s.sent ≡ 0
  pub none_posted : s.posted ≡ 0
  pub none_taken : s.taken.items ≡ []

-- the first `count` bridges of a domain
pub record AreNewDriven (d : Domain) (offers : List Offer) (background : List Background) (count : ℕ) (driven : List WorldBridge) : Type 0 where
  pub one_each : length driven ≡ count
  pub each : (bridge : ℕ) (s : WorldBridge) → bridge < count → IsNewDriven d offers background bridge (slice_index_or driven bridge s)

-- `count` links on which no batch is under way, and from which none was taken
pub record AreNewLines (count : ℕ) (lines : List Line) : Type 0 where
  pub one_each : length lines ≡ count
  pub none_taken : (link : ℕ) (x : Line) → link < count → (slice_index_or lines link x).taken ≡ 0
  pub none_waiting : (link : ℕ) (x : Line) → link < count → (slice_index_or lines link x).waiting.items ≡ []
