-- What a book says by link, from only the offers: each covered offer leaves by each hop of its stream's tree.
use Rattle.std.specs.Prelude.{ℕ, ◌≡◌, ◌+◌, ◌<◌, ◌≤◌, ◌==◌, ◌&&◌, List, [], if◌then◌else◌, nat_lt, Contains, fold, length, max, slice_index_or, sum, sum_by}
use Rattle.cqf_model.specs.declared.frames.Background.{Background}
use Rattle.cqf_model.specs.declared.frames.Offer.{Offer}
use Rattle.cqf_model.specs.declared.frames.Offered.{Offered}
use Rattle.cqf_model.specs.declared.frames.Started.{Started}
use Rattle.cqf_model.specs.declared.topology.Hop.{Hop}
use Rattle.cqf_model.specs.Book.{Contents, IsOneThreadBook}
use Rattle.cqf_model.specs.Domain.{Domain, IsAccepted}
use Rattle.cqf_model.specs.History.{IsLegalHistory, Recorded}
use Rattle.cqf_model.specs.HistoryBook.{IsBookOfHistory, run_of_history}
use Rattle.cqf_model.specs.OnLinks.{frames_on, octets_on}
use Rattle.cqf_model.specs.Run.{AreBackground, AreOffers, Run}
use Rattle.cqf_model.specs.Shift.{offer_cycle}
use Rattle.cqf_model.specs.Table.{AreOrderly}
use Rattle.cqf_model.specs.Policing.{Verdict, Queued, DroppedFor, LacksRow, ExceedsGate, numbered}
use Rattle.cqf_model.specs.Promise.{IsDecided}
use Rattle.cqf_laws_coverage.specs.InOneCycle.{most_on, octets_summed}

-- the hops by which an offer with this verdict leaves: those of its row's tree, and none if it is dropped
abbrev pub hops_of : Verdict → List Hop
hops_of (Queued row) = row.tree.items
hops_of (DroppedFor reason) = []
hops_of LacksRow = []
hops_of ExceedsGate = []

-- each offer of the run's cycles has a verdict in accordance with the definitions
abbrev pub AreDecided : Run → (Offered → Verdict) → Type 0
AreDecided run verdict = (x : Offered) → Contains (numbered run.offers) x → offer_cycle run.domain x < length run.tables → IsDecided run x (verdict x)

-- a sum over the hops of some offers; each hop counts by its link, the cycle in which the frame leaves by it, and the frame's
-- octets
abbrev pub sum_of_hops : Domain → (Offered → Verdict) → (ℕ → ℕ → ℕ → ℕ) → List Offered → ℕ
sum_of_hops d verdict counts offers =
    sum_by (λ (x : Offered). sum_by (λ (hop : Hop). counts hop.link (offer_cycle d x + hop.hop_number) x.offer.octets) (hops_of (verdict x))) offers

-- the octets that leave by a link in a cycle; the frames that leave by it in the first cycles; and the octets of these frames
abbrev pub counts_in : ℕ → ℕ → ℕ → ℕ → ℕ → ℕ
counts_in link cycle l c octets = if (l == link) && (c == cycle) then octets else 0

abbrev pub counts_frames : ℕ → ℕ → ℕ → ℕ → ℕ → ℕ
counts_frames link cycles l c octets = if (l == link) && nat_lt c cycles then 1 else 0

abbrev pub counts_octets : ℕ → ℕ → ℕ → ℕ → ℕ → ℕ
counts_octets link cycles l c octets = if (l == link) && nat_lt c cycles then octets else 0

-- the starts are the hops of the covered offers, for any count that counts nothing after the run
abbrev pub AreCountedHops : Run → (Offered → Verdict) → List Started → Type 0
AreCountedHops run verdict starts =
    (counts : ℕ → ℕ → ℕ → ℕ) → ((link cycle octets : ℕ) → length run.tables ≤ cycle → counts link cycle octets ≡ 0) →
    sum_by (λ (s : Started). counts s.link s.cycle.0 s.octets) starts ≡ sum_of_hops run.domain verdict counts (numbered run.offers)

abbrev pub StartsAreHops : Type 0
StartsAreHops = (run : Run) (book : Contents) (verdict : Offered → Verdict) → IsAccepted run.domain → AreOrderly run.domain run.tables →
    AreOffers run.domain run.offers → AreBackground run.domain run.background → IsOneThreadBook run book → AreDecided run verdict →
    AreCountedHops run verdict book.starts

-- a link's sums over the first cycles are those of the covered offers' hops
pub record IsCounted (d : Domain) (cycles : ℕ) (offers : List Offer) (verdict : Offered → Verdict) (starts : List Started) (link : ℕ) : Type 0 where
  pub frames : frames_on link starts ≡ sum_of_hops d verdict (counts_frames link cycles) (numbered offers)
  pub octets : octets_on link starts ≡ sum_of_hops d verdict (counts_octets link cycles) (numbered offers)
  pub column : (cycle : ℕ) → cycle < cycles → octets_summed link cycle starts ≡ sum_of_hops d verdict (counts_in link cycle) (numbered offers)
  pub later : (cycle : ℕ) → cycles ≤ cycle → octets_summed link cycle starts ≡ 0

-- the sums of a one-thread book of a history are those of the covered offers' hops
abbrev pub HistoryIsCounted : Type 0
HistoryIsCounted =
    (d : Domain) (entries : List Recorded) (offers : List Offer) (background : List Background) (cycles : ℕ) (book : Contents)
    (verdict : Offered → Verdict) (link : ℕ) → IsAccepted d → IsLegalHistory d entries → AreOffers d offers → AreBackground d background →
    IsBookOfHistory d entries offers background cycles book → AreDecided (run_of_history d entries offers background cycles) verdict →
    IsCounted d cycles offers verdict book.starts link

-- a list of a link's octets in each cycle gives its octets in all and the most in one cycle
pub record ReportsCount (starts : List Started) (link : ℕ) (column : List ℕ) : Type 0 where
  pub octets : sum column ≡ octets_on link starts
  pub most : fold max 0 column ≡ most_on link starts

abbrev pub ColumnsReport : Type 0
ColumnsReport = (starts : List Started) (link : ℕ) (column : List ℕ) → ((cycle : ℕ) → slice_index_or column cycle 0 ≡ octets_summed link cycle starts) →
    ReportsCount starts link column
