-- A run of a domain with the compiled gate lists.
use Rattle.std.specs.Prelude.{◌≡◌, List, length}
use Rattle.cqf_model.specs.declared.frames.Background.{Background}
use Rattle.cqf_model.specs.Domain.{IsAccepted}
use Rattle.cqf_model.specs.Run.{AreBackground, AreOffers, Run}
use Rattle.cqf_model.specs.Table.{AreOrderly}
use Rattle.cqf_model.specs.Network.{IsLegalNetwork, Network, compiled_lists}
use Rattle.cqf_laws_shift.specs.Alone.{IsRunAlone}

-- a legal run:
-- - The domain is accepted, and the tables are those of a history.
-- - The offers are frames of Ethernet's sizes at its bridges.
-- - The background frames are of classes that no stream has.
-- - The network does what its gates say, over as many cycles as there are tables.
pub record IsLegalRun (run : Run) (net : Network) : Type 0 where
  pub accepted : IsAccepted run.domain
  pub orderly : AreOrderly run.domain run.tables
  pub offered : AreOffers run.domain run.offers
  pub background : AreBackground run.domain run.background
  pub legal : IsLegalNetwork run (compiled_lists run.domain) (length run.tables) net

-- for the streams' frames, a run beside any such background is a legal run of them alone
abbrev pub RunBesideIsRunAlone : Type 0
RunBesideIsRunAlone = (run : Run) (net : Network) → IsLegalRun run net → IsRunAlone run net.carried

-- the same run with other background frames
abbrev pub with_background : Run → List Background → Run
with_background run background = record { domain = run.domain; tables = run.tables; offers = run.offers; background = background }

-- so background frames change no start of a stream's frame: in two runs that differ only in them, the links carry the same
abbrev pub BackgroundChangesNoStart : Type 0
BackgroundChangesNoStart = (run : Run) (background : List Background) (net other : Network) →
    IsLegalRun run net → IsLegalRun (with_background run background) other → net.carried ≡ other.carried
