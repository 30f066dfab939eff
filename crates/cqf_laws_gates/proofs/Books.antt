-- What follows for books, accounts and networks whose clocks differ.
use Rattle.std.proofs.Common.{◌≡◌, ℕ, ◌+◌, ◌*◌, ◌<◌, ◌≤◌, ◌↔◌, List, length, sym, refl, ap, ◌∙◌, arith, subst, map-id, Contains}
use Rattle.std.specs.Prelude.{[], ◌++◌, ◌==◌, filter, map}
use Rattle.cqf_lists.proofs.EachBelow.{same_below}
use Rattle.cqf_units.proofs.Cycles.{cycles_ordered}
use Rattle.cqf_model.specs.declared.frames.Background.{Background}
use Rattle.cqf_model.specs.declared.frames.Offer.{Offer}
use Rattle.cqf_model.specs.declared.frames.Sent.{Sent}
use Rattle.cqf_model.specs.Book.{Contents, IsOneThreadBook, drops_of}
use Rattle.cqf_model.specs.Domain.{Domain, IsAccepted, bridge_of, cycle_of}
use Rattle.cqf_model.specs.History.{IsLegalHistory, Recorded, seals}
use Rattle.cqf_model.specs.HistoryBook.{run_of_history}
use Rattle.cqf_model.specs.Loose.{ComesWithin, IsAcceptedWith, Slack}
use Rattle.cqf_model.specs.Network.{IsNetworkBy, Network, QueuedFrame, Sends, backed_in, comes_before, compiled_lists, queued_to}
use Rattle.cqf_model.specs.Run.{AreBackground, AreOffers, Run, end_of_run}
use Rattle.cqf_model.specs.Policing.{Carried, Policed, policed_before, received_before, whole_at}
use Rattle.cqf_model.proofs.Links.{delay_within}
use Rattle.cqf_laws_history.specs.HistoryLaws.{TablesAreOrderly}
use Rattle.cqf_laws_network.specs.NetworkLaws.{BookIsUnique}
use Rattle.cqf_laws_shift.specs.Alone.{IsPlanned}
use Rattle.cqf_laws_shift.specs.Heard.{AreHeard}
use Rattle.cqf_laws_loose.specs.LooseLaws.{LooseHistoryMeansTheShift}
use Rattle.cqf_laws_loose.proofs.Loose.{heard_as}
use Rattle.cqf_laws_gates.specs.InnerGates.{AreLenient, InnerGates, IsBookWith, IsNetworkWith, comes_before_by, own_gates, policed_by}
use Rattle.cqf_laws_gates.specs.LenientLaws.{AccountsHoldForLenientGates, EdgeGatesMeanTheShift, InnerGatesAreRedundant, LenientGatesKeepTheBook}
use Rattle.cqf_laws_gates.specs.LenientLaws.{LooseInnerGatesAreRedundant, OwnGatesAreTheModels, VerdictsAreOfOwnGates}
use Rattle.cqf_laws_gates.proofs.Verdicts.{own_verdicts}

-- with the streams' own gates, what comes at a port in the first cycles is what comes in the model
own_comes : (run : Run) (heard : Carried) (l : ℕ) →
    comes_before_by run (own_gates run.domain) heard l (length run.tables) ≡ comes_before run heard l (length run.tables)
own_comes run heard l =
    let d = run.domain in
    same_below _ _ (length run.tables) (λ cycle k.
    ap (λ (ps : List Policed). backed_in d run.background l cycle
    ++ filter (λ (x : QueuedFrame). cycle_of d x.arrival.at.0 == cycle) (queued_to d l ps))
    (own_verdicts d run.tables (bridge_of d l) [] (received_before run heard (bridge_of d l) ((cycle + 1) * d.cycle_time))))

-- the law
pub own_gates_are_the_models : OwnGatesAreTheModels
own_gates_are_the_models run net heard = (
  λ legal. record {
    sends = λ l h. subst (SendsOf l) (own_comes run heard l) (legal.sends l h);
    no_others = legal.no_others;
  },
  λ legal. record {
    sends = λ l h. subst (SendsOf l) (sym (own_comes run heard l)) (legal.sends l h);
    no_others = legal.no_others;
  },
)
  where
    -- a link sends what its list demands of these frames
    SendsOf : ℕ → List QueuedFrame → Type 0
    SendsOf l queued = Sends run.domain (compiled_lists run.domain l) (end_of_run run) l queued (net.carried l) (net.backed l)

-- if all nodes have the same clock, what is sent is heard
heard_exactly : (d : Domain) → IsAccepted d → (carried : Carried) → AreHeard d carried carried
heard_exactly d accepted carried = record {
  noted = λ l sent. sent;
  are = λ l. sym (map-id (carried l));
  each = λ l sent is_link c. record {
    frame = refl;
    stream = refl;
    octets = refl;
    no_sooner = cycles_ordered d.cycle_time sent.start.0 (whole_at d l sent) (omega (arith, accepted.cycle_least)) (omega arith);
    in_time = omega (arith, delay_within d l accepted is_link);
  };
}

-- frames that arrive within the bounds are heard
heard_loosely : (run : Run) (slack : Slack) (net : Network) (heard : Carried) (noted : ℕ → Sent → Sent) → IsAcceptedWith run.domain slack →
    ((l : ℕ) → heard l ≡ map (noted l) (net.carried l)) →
    ((l : ℕ) (sent : Sent) → l < length run.domain.links → Contains (net.carried l) sent → ComesWithin run.domain slack l sent (noted l sent)) →
    AreHeard run.domain net.carried heard
heard_loosely run slack net heard noted accepted are each = record {
  noted = noted;
  are = are;
  each = λ l sent is_link c. heard_as run.domain slack l sent (noted l sent) accepted is_link (each l sent is_link c);
}

module _ (redundant : InnerGatesAreRedundant) (verdicts : VerdictsAreOfOwnGates) where
  module _ (run : Run) (gates : InnerGates) (lenient : AreLenient run.domain gates) (planned : IsPlanned run)
      (background : AreBackground run.domain run.background) (book : Contents) where
    -- the two networks are one
    networks : (net : Network) →
        IsNetworkWith run gates net net.carried ↔ IsNetworkBy run (compiled_lists run.domain) (length run.tables) net net.carried
    networks net = redundant run gates net net.carried lenient planned background (heard_exactly run.domain planned.accepted net.carried)

    -- and have the same drops
    drops_same : (net : Network) → IsNetworkBy run (compiled_lists run.domain) (length run.tables) net net.carried →
        drops_of run.domain (length run.tables) (length run.offers) (λ bridge. policed_by run gates net.carried bridge (end_of_run run))
        ≡ drops_of run.domain (length run.tables) (length run.offers) (λ bridge. policed_before run net.carried bridge (end_of_run run))
    drops_same net legal =
        let same = verdicts run gates net net.carried lenient planned background (heard_exactly run.domain planned.accepted net.carried) legal in
        let all : (λ (bridge : ℕ). policed_by run gates net.carried bridge (end_of_run run))
        ≡ (λ (bridge : ℕ). policed_before run net.carried bridge (end_of_run run)) = λ i. λ bridge. same bridge i in
        ap (drops_of run.domain (length run.tables) (length run.offers)) all

    -- so the books are one
    pub own_book : IsBookWith run gates book → IsOneThreadBook run book
    own_book b =
        let legal = (networks b.net).0 b.legal in
        record {
          net = b.net;
          legal = legal;
          are_starts = b.are_starts;
          are_background = b.are_background;
          are_drops = b.are_drops ∙ drops_same b.net legal;
        }

    pub lenient_book : IsOneThreadBook run book → IsBookWith run gates book
    lenient_book b = record {
      net = b.net;
      legal = (networks b.net).1 b.legal;
      are_starts = b.are_starts;
      are_background = b.are_background;
      are_drops = b.are_drops ∙ sym (drops_same b.net b.legal);
    }

  -- what is planned of the run of a legal history
  planned_history : TablesAreOrderly → (d : Domain) (entries : List Recorded) (offers : List Offer) (background : List Background) (cycles : ℕ) →
      IsAccepted d → IsLegalHistory d entries → AreOffers d offers → cycles ≤ seals entries →
      IsPlanned (run_of_history d entries offers background cycles)
  planned_history tables d entries offers background cycles accepted legal offered sealed =
      record { accepted = accepted; orderly = tables d entries cycles legal sealed; offered = offered }

  -- the law
  pub lenient_gates_keep_the_book : TablesAreOrderly → LenientGatesKeepTheBook
  lenient_gates_keep_the_book tables d entries offers background cycles gates book lenient accepted legal offered following sealed =
      let run = run_of_history d entries offers background cycles in
      let planned = planned_history tables d entries offers background cycles accepted legal offered sealed in
      (own_book run gates lenient planned following book, lenient_book run gates lenient planned following book)

  -- the law
  pub accounts_hold_for_lenient_gates : TablesAreOrderly → BookIsUnique → AccountsHoldForLenientGates
  accounts_hold_for_lenient_gates tables unique d opening offers background cycles asked entries book other gates lenient accepted offered following account is =
      let run = run_of_history d entries offers background cycles in
      let planned = planned_history tables d entries offers background cycles accepted account.history.legal offered account.sealed in
      unique run (compiled_lists d) (length run.tables) other book (own_book run gates lenient planned following other is) account.keeps.is_book

  -- the law
  pub loose_inner_gates_are_redundant : LooseInnerGatesAreRedundant
  loose_inner_gates_are_redundant run slack gates net heard lenient planned background accepted = (
    λ loose. record {
      goes = (redundant run gates net heard lenient planned background
          (heard_loosely run slack net heard loose.noted accepted loose.are loose.each)).0 loose.goes;
      noted = loose.noted;
      are = loose.are;
      each = loose.each;
    },
    λ loose. record {
      goes = (redundant run gates net heard lenient planned background
          (heard_loosely run slack net heard loose.noted accepted loose.are loose.each)).1 loose.goes;
      noted = loose.noted;
      are = loose.are;
      each = loose.each;
    },
  )

  -- the law
  pub edge_gates_mean_the_shift : TablesAreOrderly → LooseHistoryMeansTheShift → EdgeGatesMeanTheShift
  edge_gates_mean_the_shift tables means d entries offers background cycles slack gates net heard lenient accepted legal offered following sealed loose =
      let run = run_of_history d entries offers background cycles in
      let planned = planned_history tables d entries offers background cycles accepted.accepted legal offered sealed in
      means d entries offers background cycles slack net heard accepted legal offered following sealed
      ((loose_inner_gates_are_redundant run slack gates net heard lenient planned following accepted).0 loose)
