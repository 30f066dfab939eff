-- Laws about the legal network of a run.
use Rattle.std.specs.Prelude.{ℕ, ◌≡◌, ◌≤◌, ◌<◌, ◌*◌, ◌++◌, List, Contains, filter, length, nat_lt, take}
use Rattle.cqf_model.specs.declared.frames.Dropped.{Dropped}
use Rattle.cqf_model.specs.declared.frames.Sent.{Sent}
use Rattle.cqf_model.specs.declared.frames.Started.{Started}
use Rattle.cqf_model.specs.declared.ports.Start.{Start}
use Rattle.cqf_model.specs.declared.topology.Row.{Row}
use Rattle.cqf_model.specs.Book.{Contents, IsBook}
use Rattle.cqf_model.specs.Domain.{Domain}
use Rattle.cqf_model.specs.GateList.{Entry}
use Rattle.cqf_model.specs.Network.{IsLegalNetwork, Network, QueuedFrame, Sends, comes_before}
use Rattle.cqf_model.specs.Run.{Run}
use Rattle.cqf_model.specs.Table.{table_of}
use Rattle.cqf_model.specs.Policing.{Carried, policed_before}

-- a domain can always continue: some network is legal, regardless of the gate lists, tables, offers and background frames
abbrev pub LegalNetworkExists : Type 0
LegalNetworkExists = (run : Run) (lists : ℕ → List Entry) (cycles : ℕ) → (net : Network) × IsLegalNetwork run lists cycles net

-- what a domain does is determined: no two networks are legal for the same run and gate lists
abbrev pub LegalNetworkIsUnique : Type 0
LegalNetworkIsUnique = (run : Run) (lists : ℕ → List Entry) (cycles : ℕ) (net other : Network) →
    IsLegalNetwork run lists cycles net → IsLegalNetwork run lists cycles other → net ≡ other

-- the streams' frames that a link sends before an instant
abbrev pub sent_before : ℕ → List Sent → List Sent
sent_before end sents = filter (λ (sent : Sent). nat_lt sent.start.0 end) sents

-- the background frames that a link sends before an instant
abbrev pub backed_before : ℕ → List Start → List Start
backed_before end backed = filter (λ (start : Start). nat_lt start.start.0 end) backed

-- the streams' frames that all links send before an instant
abbrev pub carried_before : ℕ → Carried → Carried
carried_before end carried l = sent_before end (carried l)

-- all that the links send before an instant, of both kinds
abbrev pub network_before : ℕ → Network → Network
network_before end net = record { carried = carried_before end net.carried; backed = λ l. backed_before end (net.backed l) }

-- the frames come at the instant or later
abbrev pub AreLate : ℕ → List QueuedFrame → Type 0
AreLate end queued = (x : QueuedFrame) → Contains queued x → end ≤ x.arrival.at.0

-- what a port with this gate list and link sends for this queue: it starts what is demanded up to an end
pub record Sending (d : Domain) (entries : List Entry) (l : ℕ) (queued : List QueuedFrame) : Type 0 where
  pub end : ℕ
  pub sents : List Sent
  pub backed : List Start
  pub sends : Sends d entries end l queued sents backed

-- two ports send the same before an instant, of both kinds
pub record SendTheSame (end : ℕ) (sents others : List Sent) (backed other_backed : List Start) : Type 0 where
  pub sent : sent_before end sents ≡ sent_before end others
  pub background : backed_before end backed ≡ backed_before end other_backed

-- what a port sends depends only on the past: if two queues have the same beginning, and the rest of each comes at an instant or later, the
-- same is sent before that instant
abbrev pub PortGoesByThePast : Type 0
PortGoesByThePast = (d : Domain) (entries : List Entry) (l end : ℕ) (front rest other_rest : List QueuedFrame) →
    AreLate end rest → AreLate end other_rest →
    (one : Sending d entries l (front ++ rest)) (other : Sending d entries l (front ++ other_rest)) →
    end ≤ one.end → end ≤ other.end → SendTheSame end one.sents other.sents one.backed other.backed

-- the links of the domain carry the same before an instant
abbrev pub CarryTheSame : Domain → ℕ → Carried → Carried → Type 0
CarryTheSame d end carried other = (l : ℕ) → l < length d.links → sent_before end (carried l) ≡ sent_before end (other l)

-- the tables of the first cycles are the same
abbrev pub HaveTheSameTables : ℕ → List (List Row) → List (List Row) → Type 0
HaveTheSameTables cycles tables others = (cycle : ℕ) → cycle < cycles → table_of tables cycle ≡ table_of others cycle

-- the run with other tables
abbrev pub with_tables : Run → List (List Row) → Run
with_tables run tables = record { domain = run.domain; tables = tables; offers = run.offers; background = run.background }

-- two runs have one past before a cycle: the tables of the cycles before it are the same, and the links carry the same before it
pub record HaveOnePast (run : Run) (others : List (List Row)) (carried other : Carried) (cycles : ℕ) : Type 0 where
  pub tables : HaveTheSameTables cycles run.tables others
  pub links : CarryTheSame run.domain (cycles * run.domain.cycle_time) carried other

-- if two runs have one past before a cycle, the same frames arrive at each bridge before it, with the same verdicts
abbrev pub BridgesGoByThePast : Type 0
BridgesGoByThePast = (run : Run) (others : List (List Row)) (carried other : Carried) (cycles bridge : ℕ) →
    HaveOnePast run others carried other cycles →
    policed_before run carried bridge (cycles * run.domain.cycle_time)
    ≡ policed_before (with_tables run others) other bridge (cycles * run.domain.cycle_time)

-- if two runs have one past before a cycle, the same frames arrive at each port before it
abbrev pub PortsGetThePast : Type 0
PortsGetThePast = (run : Run) (others : List (List Row)) (carried other : Carried) (cycles l : ℕ) →
    HaveOnePast run others carried other cycles →
    comes_before run carried l cycles ≡ comes_before (with_tables run others) other l cycles

-- a run of fewer cycles, with the same tables in them. The tables of later cycles may differ
pub record IsShorter (cycles longer : ℕ) (tables others : List (List Row)) : Type 0 where
  pub fewer : cycles ≤ longer
  pub tables_same : HaveTheSameTables cycles tables others

-- a shorter run is the beginning of a longer one: what the longer run sends before the shorter one's end is a legal network of the shorter
-- run, regardless of the tables of later cycles
abbrev pub BeginningIsLegal : Type 0
BeginningIsLegal = (run : Run) (others : List (List Row)) (lists : ℕ → List Entry) (cycles longer : ℕ) (net : Network) →
    IsShorter cycles longer run.tables others → IsLegalNetwork run lists longer net →
    IsLegalNetwork (with_tables run others) lists cycles (network_before (cycles * run.domain.cycle_time) net)

-- a shorter run sends nothing but what the longer run sends before the shorter one's end, regardless of the tables of later cycles
abbrev pub ShorterRunIsTheBeginning : Type 0
ShorterRunIsTheBeginning = (run : Run) (others : List (List Row)) (lists : ℕ → List Entry) (cycles longer : ℕ) (net shorter : Network) →
    IsShorter cycles longer run.tables others → IsLegalNetwork run lists longer net →
    IsLegalNetwork (with_tables run others) lists cycles shorter → shorter ≡ network_before (cycles * run.domain.cycle_time) net

-- the tables of the first cycles are the same in the list that has only these
abbrev pub FirstTablesAreTheSame : Type 0
FirstTablesAreTheSame = (cycles : ℕ) (tables : List (List Row)) → HaveTheSameTables cycles tables (take cycles tables)

-- what the book says is determined: no two books are of the same run, gate lists and cycles
abbrev pub BookIsUnique : Type 0
BookIsUnique = (run : Run) (lists : ℕ → List Entry) (cycles : ℕ) (book other : Contents) →
    IsBook run lists cycles book → IsBook run lists cycles other → book ≡ other

-- some book exists
abbrev pub BookExists : Type 0
BookExists = (run : Run) (lists : ℕ → List Entry) (cycles : ℕ) → (book : Contents) × IsBook run lists cycles book

-- the starts in cycles before one
abbrev pub starts_before_cycle : ℕ → List Started → List Started
starts_before_cycle cycle starts = filter (λ (start : Started). nat_lt start.cycle.0 cycle) starts

-- the drops in cycles before one
abbrev pub drops_before_cycle : ℕ → List Dropped → List Dropped
drops_before_cycle cycle drops = filter (λ (drop : Dropped). nat_lt drop.cycle.0 cycle) drops

-- the part of a book about the cycles before one
abbrev pub book_before_cycle : ℕ → Contents → Contents
book_before_cycle cycle book = record {
  starts = starts_before_cycle cycle book.starts;
  background = starts_before_cycle cycle book.background;
  drops = drops_before_cycle cycle book.drops;
}

-- the book of a shorter run is the part of a longer run's book about its cycles
abbrev pub ShorterBookIsTheBeginning : Type 0
ShorterBookIsTheBeginning = (run : Run) (others : List (List Row)) (lists : ℕ → List Entry) (cycles longer : ℕ) (book : Contents) →
    IsShorter cycles longer run.tables others → IsBook run lists longer book →
    IsBook (with_tables run others) lists cycles (book_before_cycle cycles book)
