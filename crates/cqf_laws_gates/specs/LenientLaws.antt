-- Laws about lenient inner gates: they change nothing.
use Rattle.std.specs.Prelude.{ℕ, ◌≡◌, ◌<◌, ◌≤◌, ◌↔◌, List, length}
use Rattle.cqf_model.specs.declared.frames.Background.{Background}
use Rattle.cqf_model.specs.declared.frames.Offer.{Offer}
use Rattle.cqf_model.specs.Book.{Contents, IsOneThreadBook}
use Rattle.cqf_model.specs.Domain.{Domain, IsAccepted}
use Rattle.cqf_model.specs.Headline.{IsAccountOf}
use Rattle.cqf_model.specs.History.{Act, IsLegalHistory, Recorded, seals}
use Rattle.cqf_model.specs.HistoryBook.{run_of_history}
use Rattle.cqf_model.specs.Loose.{IsAcceptedWith, IsLooseNetwork, Slack}
use Rattle.cqf_model.specs.Network.{IsNetworkBy, Network, compiled_lists}
use Rattle.cqf_model.specs.Promise.{MeansTheShiftAs}
use Rattle.cqf_model.specs.Run.{AreBackground, AreOffers, Run, end_of_run}
use Rattle.cqf_model.specs.Policing.{Carried, policed_before}
use Rattle.cqf_laws_shift.specs.Alone.{IsPlanned}
use Rattle.cqf_laws_shift.specs.Heard.{AreHeard}
use Rattle.cqf_laws_gates.specs.InnerGates.{AreLenient, HaveRoom, InnerGates, InnerLimits, IsBookWith, IsLooseNetworkWith, IsNetworkWith}
use Rattle.cqf_laws_gates.specs.InnerGates.{counting_gates, no_gates, own_gates, policed_by}

-- with the streams' own gates at inner bridges too, the network is the model's
abbrev pub OwnGatesAreTheModels : Type 0
OwnGatesAreTheModels = (run : Run) (net : Network) (heard : Carried) →
    IsNetworkWith run (own_gates run.domain) net heard ↔ IsNetworkBy run (compiled_lists run.domain) (length run.tables) net heard

-- these inner gates are lenient: the streams' own, none, and any that count to at least what the streams reserve
pub record TheseAreLenient : Type 0 where
  pub own : (d : Domain) → AreLenient d (own_gates d)
  pub none : (d : Domain) → AreLenient d no_gates
  pub counting : (d : Domain) (limit : InnerLimits) → 0 < d.cycle_time → HaveRoom limit → AreLenient d (counting_gates d limit)

-- for an accepted domain, the tables of a history, any offers, and any background frames: what a network with lenient inner gates may do
-- is exactly what the network with the streams' own gates may do. This holds for anything heard, as long as no frame is heard in an
-- earlier cycle than it was sent in, nor later than the guard band allows
abbrev pub InnerGatesAreRedundant : Type 0
InnerGatesAreRedundant = (run : Run) (gates : InnerGates) (net : Network) (heard : Carried) → AreLenient run.domain gates → IsPlanned run →
    AreBackground run.domain run.background → AreHeard run.domain net.carried heard →
    IsNetworkWith run gates net heard ↔ IsNetworkBy run (compiled_lists run.domain) (length run.tables) net heard

-- in a network with lenient inner gates the verdicts at each bridge are those of the streams' own gates
abbrev pub VerdictsAreOfOwnGates : Type 0
VerdictsAreOfOwnGates = (run : Run) (gates : InnerGates) (net : Network) (heard : Carried) → AreLenient run.domain gates → IsPlanned run →
    AreBackground run.domain run.background → AreHeard run.domain net.carried heard →
    IsNetworkBy run (compiled_lists run.domain) (length run.tables) net heard → (bridge : ℕ) →
    policed_by run gates heard bridge (end_of_run run) ≡ policed_before run heard bridge (end_of_run run)

-- so a book of the run of a legal history is one with lenient inner gates exactly if it is the one-thread book
abbrev pub LenientGatesKeepTheBook : Type 0
LenientGatesKeepTheBook = (d : Domain) (entries : List Recorded) (offers : List Offer) (background : List Background) (cycles : ℕ)
    (gates : InnerGates) (book : Contents) → AreLenient d gates → IsAccepted d → IsLegalHistory d entries → AreOffers d offers →
    AreBackground d background → cycles ≤ seals entries →
    IsBookWith (run_of_history d entries offers background cycles) gates book ↔ IsOneThreadBook (run_of_history d entries offers background cycles) book

-- all that is promised of a run is promised of each network with lenient inner gates: its book is the run's
abbrev pub AccountsHoldForLenientGates : Type 0
AccountsHoldForLenientGates = (d : Domain) (opening : List Recorded) (offers : List Offer) (background : List Background) (cycles : ℕ)
    (asked : List (List Act)) (entries : List Recorded) (book other : Contents) (gates : InnerGates) → AreLenient d gates → IsAccepted d →
    AreOffers d offers → AreBackground d background → IsAccountOf d opening offers background cycles asked entries book →
    IsBookWith (run_of_history d entries offers background cycles) gates other → other ≡ book

-- if clocks differ and delays vary too, a network with lenient inner gates may do exactly what the network with the streams' own gates may
-- do
abbrev pub LooseInnerGatesAreRedundant : Type 0
LooseInnerGatesAreRedundant = (run : Run) (slack : Slack) (gates : InnerGates) (net : Network) (heard : Carried) → AreLenient run.domain gates →
    IsPlanned run → AreBackground run.domain run.background → IsAcceptedWith run.domain slack →
    IsLooseNetworkWith run slack gates net heard ↔ IsLooseNetwork run slack net heard

-- so there too the gates at the edge alone mean the shift, for each legal history
abbrev pub EdgeGatesMeanTheShift : Type 0
EdgeGatesMeanTheShift = (d : Domain) (entries : List Recorded) (offers : List Offer) (background : List Background) (cycles : ℕ) (slack : Slack)
    (gates : InnerGates) (net : Network) (heard : Carried) → AreLenient d gates → IsAcceptedWith d slack → IsLegalHistory d entries →
    AreOffers d offers → AreBackground d background → cycles ≤ seals entries →
    IsLooseNetworkWith (run_of_history d entries offers background cycles) slack gates net heard →
    MeansTheShiftAs (run_of_history d entries offers background cycles) net.carried heard
