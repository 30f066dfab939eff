-- A run from its beginning over all its cycles to its end, and the promises for it.
use Rattle.std.proofs.Common.{◌≡◌, ℕ, ◌+◌, ◌*◌, ◌<◌, List, [], sym, refl, ap, ◌∙◌, arith, subst, length, map, get_or, inl, inr, Contains}
use Rattle.std.specs.Prelude.{Some, slice_get}
use Rattle.std.proofs.lemmas.List.{get_or-map, length-map}
use Rattle.std.proofs.lemmas.Option.{get_or_from_slice_get, slice_get_cases}
use Rattle.cqf_lists.specs.Lists.{each_below}
use Rattle.cqf_lists.proofs.EachBelow.{same_below}
use Rattle.cqf_lists.proofs.Members.{contains_none}
use Rattle.cqf_model.specs.declared.frames.Background.{Background}
use Rattle.cqf_model.specs.declared.frames.Offer.{Offer}
use Rattle.cqf_model.specs.declared.topology.Row.{Row}
use Rattle.cqf_model.specs.Book.{Contents, IsBook, drops_in}
use Rattle.cqf_model.specs.Domain.{Domain, IsAccepted}
use Rattle.cqf_model.specs.History.{Recorded}
use Rattle.cqf_model.specs.Network.{IsLegalNetwork, IsLost, Network, compiled_lists}
use Rattle.cqf_model.specs.Run.{AreBackground, AreOffers, Run}
use Rattle.cqf_model.specs.Table.{AreOrderly, table_of}
use Rattle.cqf_model.specs.Policing.{policed_before}
use Rattle.cqf_laws_history.specs.HistoryLaws.{TablesAreOrderly}
use Rattle.cqf_laws_network.specs.NetworkLaws.{BookIsUnique, LegalNetworkIsUnique}
use Rattle.cqf_laws_cycle.specs.BridgeCycle.{DropsAreOfTheCycle}
use Rattle.cqf_laws_shift.specs.Books.{BookSaysTheShift}
use Rattle.cqf_laws_shift.specs.MainLaw.{GatesMeanTheShift}
use Rattle.cqf_admission.specs.Tables.{CycleTable}
use Rattle.cqf_bridge.specs.BridgeState.{BridgeState}
use Rattle.cqf_bridge.specs.Cycles.{NewBridgeFollows, drops_of_cycle}
use Rattle.cqf_bridge.specs.Follows.{FollowsTheNetwork}
use Rattle.cqf_plain.specs.declared.faults.RunFault.{RunFault}
use Rattle.cqf_plain.specs.declared.faults.RunFault.TheVariants.{WrongTables, Inside, Memory}
use Rattle.cqf_plain.specs.SoFar.{SoFarState, IsAt, IsNewRun, IsRunOver, StopsRun, RunMayGoOn}
use Rattle.cqf_plain.specs.Driven.{drops_of_first}
use Rattle.cqf_plain.specs.Promise.{AreOfHistory, KeepsItOfHistory, WantsMemoryAlone}
use Rattle.cqf_plain.specs.Run.{AreTablesNumbered, IsBookOfRun, IsRunFault, run_of}

-- the rows of a cycle's table
abbrev rows_of : CycleTable → List Row
rows_of table = table.rows

-- a run in which nothing has happened is at its beginning
pub begins_at : NewBridgeFollows → (d : Domain) (tables : List CycleTable) (offers : List Offer) (background : List Background) (net : Network)
    (c : SoFarState) →
    IsNewRun d offers background c → IsAt (run_of d tables offers background) net 0 c
begins_at follows d tables offers background net c new =
    let run = run_of d tables offers background in
    let none : 0 * d.cycle_time ≡ 0 = omega arith in
    record {
      stand = record {
        one_each = new.bridges.one_each;
        each = λ k e inside. (let s = new.bridges.each k e inside in record {
          own = record {
            domain = ap (λ (b : BridgeState). b.domain) s.is_new;
            number = ap (λ (b : BridgeState). b.number) s.is_new;
            received = ap (λ (b : BridgeState). b.received) s.is_new;
            agenda = s.agenda;
          };
          follows = subst (FollowsTheNetwork run net) (sym s.is_new) (follows run net k inside);
          none_came = s.none_came;
        });
      };
      due = new.due;
      starts = ap (λ (b : Contents). b.starts) new.book;
      background = ap (λ (b : Contents). b.background) new.book;
      drops = ap (λ (b : Contents). b.drops) new.book;
      none_lost = λ bridge p lost.
          contains_none p (subst (λ (t : ℕ). Contains (policed_before run net.carried bridge t) p) none lost.came);
    }

-- the element read at an index is there
there_at : {X : Type 0} (xs : List X) (index : ℕ) (x : X) → index < length xs → x ≡ get_or xs index x → slice_get xs index ≡ Some x
there_at xs index x inside is = elim (slice_get_cases xs index).1 [
  | inl w ↦ w.2 ∙ ap Some (sym (get_or_from_slice_get xs index w.0 x w.2) ∙ sym is)
  | inr w ↦ absurd (omega (arith, w.0, inside))
]

-- each of numbered tables is of the cycle of its index
pub numbered_so : (tables : List CycleTable) (index : ℕ) (table : CycleTable) → AreTablesNumbered (length tables) tables → index < length tables →
    table ≡ get_or tables index table → table.cycle ≡ index
numbered_so tables index table numbered inside is = numbered.numbers index table (there_at tables index table inside is)

module _ (d : Domain) (tables : List CycleTable) (run : Run) (net : Network) (over : IsRunOver d tables run net) where
  -- there are as many cycles as tables
  as_many : length run.tables ≡ length tables
  as_many = ap (λ (rows : List (List Row)). length rows) over.rows ∙ length-map tables rows_of

  -- it may go on by the next table
  pub may_go_on : AreTablesNumbered (length tables) tables → (index : ℕ) (table : CycleTable) (c : SoFarState) → index < length tables →
      table ≡ get_or tables index table → IsAt run net index c → RunMayGoOn d table c run net
  may_go_on numbered index table c inside is at =
      let own = numbered_so tables index table numbered inside is in
      record {
        domain = over.domain;
        of_run = record {
          compiled = over.compiled;
          offers = over.offers;
          background = over.background;
          within_run = omega (arith, inside, as_many, own);
        };
        table_is = record {
          rows = ap (table_of run.tables) own
              ∙ ap (λ (rows : List (List Row)). table_of rows index) over.rows ∙ get_or-map rows_of tables index table [] inside ∙ ap rows_of (sym is);
        };
        at = subst (λ (n : ℕ). IsAt run net n c) (sym own) at;
      }

  -- and is then at the one after it
  pub at_next : AreTablesNumbered (length tables) tables → (index : ℕ) (table : CycleTable) (c : SoFarState) → index < length tables →
      table ≡ get_or tables index table → IsAt run net (table.cycle + 1) c → IsAt run net (index + 1) c
  at_next numbered index table c inside is at =
      subst (λ (n : ℕ). IsAt run net (n + 1) c) (numbered_so tables index table numbered inside is) at

  -- after the last cycle the book is the run's
  pub ends_at : BookIsUnique → LegalNetworkIsUnique → DropsAreOfTheCycle → (c : SoFarState) → IsAt run net (length tables) c → IsBookOfRun run c.book
  ends_at one_book unique among c short =
      let cycles = length run.tables in
      let e = run.domain in
      let at = subst (λ (n : ℕ). IsAt run net n c) (sym as_many) short in
      let is : IsBook run (compiled_lists e) cycles c.book =
      record {
        net = net;
        legal = over.compiled.legal;
        are_starts = at.starts;
        are_background = at.background;
        are_drops = at.drops
            ∙ same_below (λ cycle. drops_of_first run net cycle (length e.bridges))
            (λ cycle. each_below (drops_in e (length run.offers) (λ bridge. policed_before run net.carried bridge (cycles * e.cycle_time)) cycle)
            (length e.bridges)) cycles
            (λ cycle inside. same_below (λ bridge. drops_of_cycle run net bridge cycle)
            (drops_in e (length run.offers) (λ bridge. policed_before run net.carried bridge (cycles * e.cycle_time)) cycle) (length e.bridges)
            (λ bridge below. sym (among run net.carried cycles cycle bridge (length run.offers) inside)));
      } in
      record {
        is_book = is;
        only = λ other is_other. one_book run _ cycles other c.book is_other is;
        loses_nothing = λ other bridge p legal lost.
            at.none_lost bridge p
            (subst (λ (n : Network). IsLost run n.carried cycles bridge p) (unique run (compiled_lists e) cycles other net legal over.compiled.legal) lost);
      }

module _ (d : Domain) (tables : List CycleTable) (offers : List Offer) (background : List Background) (accepted : IsAccepted d) (good : AreOffers d offers)
    (following : AreBackground d background) where
  -- the requested run is over these tables
  pub over_so : (e : Domain) (net : Network) → e ≡ d → IsLegalNetwork (run_of d tables offers background) (compiled_lists d) (length (map rows_of tables)) net →
      IsRunOver e tables (run_of d tables offers background) net
  over_so e net same legal = record {
    domain = sym same;
    compiled = record { accepted = accepted; legal = legal };
    offers = good;
    background = following;
    rows = refl;
  }

  -- the tables of a history are orderly
  orderly : TablesAreOrderly → (entries : List Recorded) → AreOfHistory d tables entries → AreOrderly d (map rows_of tables)
  orderly are_orderly entries of_history =
      subst (AreOrderly d) (sym of_history.rows) (are_orderly d entries (length tables) of_history.legal of_history.sealed)

  -- under them the book keeps the promise
  pub keeps_promise : BookSaysTheShift → TablesAreOrderly → (book : Contents) →
      IsBookOfRun (run_of d tables offers background) book → KeepsItOfHistory d tables offers background book
  keeps_promise says are_orderly book is entries of_history =
      says (run_of d tables offers background) book accepted (orderly are_orderly entries of_history) good following is.is_book

  -- and there is no book only if memory is refused
  pub memory_alone : GatesMeanTheShift → TablesAreOrderly → (cycles : ℕ) (fault : RunFault) →
      IsRunFault (run_of d tables offers background) cycles tables fault → WantsMemoryAlone d cycles tables fault
  memory_alone mean are_orderly cycles WrongTables wrong entries of_history are_numbered = absurd (wrong are_numbered)
  memory_alone mean are_orderly cycles (Inside frame) lost entries of_history are_numbered =
      let l = lost.1 in
      absurd ((mean (run_of d tables offers background) l.net
      (record { accepted = accepted; orderly = orderly are_orderly entries of_history; offered = good; background = following; legal = l.legal })).none_lost
      l.bridge l.policed l.lost)
  memory_alone mean are_orderly cycles Memory lost entries of_history are_numbered = refl

-- if a run by numbered tables stops, the cause is why it returns no book
pub fault_of_stop : (run : Run) (cycles : ℕ) (tables : List CycleTable) (fault : RunFault) → AreTablesNumbered cycles tables → StopsRun run fault →
    IsRunFault run cycles tables fault
fault_of_stop run cycles tables WrongTables are_numbered stop = absurd stop
fault_of_stop run cycles tables (Inside frame) are_numbered stop = (are_numbered, stop)
fault_of_stop run cycles tables Memory are_numbered stop = are_numbered
