-- What a list of streams costs, and histories that admit only streams of a list.
use Rattle.std.specs.Prelude.{true, fold, max, if◌then◌else◌}
use Rattle.cqf_lists.specs.Lists.{each_below}
use Rattle.cqf_model.specs.Limits.{most_every}
use Rattle.cqf_model.specs.Table.{uses}
use Rattle.cqf_model.specs.History.{is_pace, pace_of}
use Rattle.std.specs.Prelude.{ℕ, ◌≡◌, ◌≢◌, ◌≤◌, List, [], ◌∷◌, Some, None, find, length, sum_by, AllPairs, Contains}
use Rattle.cqf_model.specs.declared.frames.Background.{Background}
use Rattle.cqf_model.specs.declared.frames.Offer.{Offer}
use Rattle.cqf_model.specs.declared.frames.Started.{Started}
use Rattle.cqf_model.specs.declared.history.Receipt.{Receipt}
use Rattle.cqf_model.specs.declared.history.Reply.{Reply}
use Rattle.cqf_model.specs.declared.history.Reply.TheVariants.{Accepted}
use Rattle.cqf_model.specs.declared.topology.Row.{Row}
use Rattle.cqf_model.specs.Book.{Contents}
use Rattle.cqf_model.specs.Domain.{Domain, IsAccepted, is_text}
use Rattle.cqf_model.specs.History.{Act, Admits, Asked, IsLegalHistory, Recorded, held_in, refusal_of, reply_to, seals, tables_of, tree_of}
use Rattle.cqf_model.specs.HistoryBook.{IsBookOfHistory, run_of_history}
use Rattle.cqf_model.specs.Run.{AreBackground, AreOffers}
use Rattle.cqf_model.specs.Shift.{InShift}
use Rattle.cqf_model.specs.Table.{cost_on, link_cost, table_of}
use Rattle.cqf_laws_history.specs.StateLaws.{granted_row, with_entry}
use Rattle.cqf_laws_timing.specs.Latency.{IsTimely, whole_of}

-- what a list of streams costs of a link in a cycle, in octets
abbrev pub cost_of_all : Domain → List Asked → ℕ → ℕ → ℕ
cost_of_all d streams link cycle = sum_by (λ (asked : Asked). cost_on (granted_row d 0 0 asked) link cycle) streams

-- the most that it costs of the link in a cycle in which frames of the requested stream use the link
abbrev pub most_beside_all : Domain → List Asked → Asked → ℕ → ℕ
most_beside_all d streams asked link =
    fold max 0
    (each_below (λ cycle. if uses (tree_of d asked.paths) (pace_of asked) link cycle then cost_of_all d streams link cycle ∷ [] else []) most_every)

-- each request of the list has a valid pace
abbrev pub ArePaced : List Asked → Type 0
ArePaced streams = (asked : Asked) → Contains streams asked → is_pace asked.every asked.phase ≡ true

-- each stream that a history admits is one of the list. A request that is refused may be for another stream
abbrev pub AdmitsOnly : List Asked → List Recorded → Type 0
AdmitsOnly streams entries = (e : Recorded) (asked : Asked) (receipt : Receipt) → Contains entries e → e.act ≡ Admits asked → e.reply ≡ Accepted receipt →
    Contains streams asked

-- an empty history admits only streams of any list. A history that admits only these still does after one more call that requests no other
-- stream, regardless of the reply
abbrev pub NoneAdmitsOnly : Type 0
NoneAdmitsOnly = (streams : List Asked) → AdmitsOnly streams []

abbrev pub AdmitsOnlyGoesOn : Type 0
AdmitsOnlyGoesOn = (streams : List Asked) (entries : List Recorded) (seat : ℕ) (act : Act) (reply : Reply) → AdmitsOnly streams entries →
    ((asked : Asked) → act ≡ Admits asked → Contains streams asked) → AdmitsOnly streams (with_entry entries seat act reply)

-- the row is that of a stream of the list
pub record IsOfList (d : Domain) (streams : List Asked) (row : Row) : Type 0 where
  pub asked : Asked
  pub listed : Contains streams asked
  pub name : row.name ≡ asked.name
  pub octets : row.octets ≡ asked.octets
  pub overhead : row.overhead ≡ d.overhead
  pub pace : row.pace ≡ pace_of asked
  pub tree : row.tree.items ≡ tree_of d asked.paths

-- each row of a table of a history that admits only streams of a list is one of the list's
abbrev pub RowsAreOfList : Type 0
RowsAreOfList = (d : Domain) (entries : List Recorded) (streams : List Asked) (cycles cycle : ℕ) (row : Row) → AdmitsOnly streams entries →
    Contains (table_of (tables_of d entries cycles) cycle) row → IsOfList d streams row

-- no table of a history that admits only streams of a list costs more of a link than the whole list
abbrev pub TablesCostNoMore : Type 0
TablesCostNoMore = (d : Domain) (entries : List Recorded) (streams : List Asked) (cycles cycle link active_cycle : ℕ) → IsLegalHistory d entries →
    cycles ≤ seals entries → AdmitsOnly streams entries → link_cost (table_of (tables_of d entries cycles) cycle) link active_cycle ≤ cost_of_all d streams link active_cycle

-- the history after seat 0 requests streams in turn, and that none of these requests is refused
abbrev pub with_all : Domain → List Recorded → List Asked → List Recorded
with_all d entries [] = entries
with_all d entries (asked ∷ more) = with_all d (with_entry entries 0 (Admits asked) (reply_to d entries (Admits asked))) more

abbrev pub AreGranted : Domain → List Recorded → List Asked → Type 0
AreGranted d entries [] = Unit {0}
AreGranted d entries (asked ∷ more) =
    (refusal_of d (held_in d entries (seals entries)) asked ≡ None)
    × AreGranted d (with_entry entries 0 (Admits asked) (reply_to d entries (Admits asked))) more

-- if they are all admitted before cycle 0, they cost what the table of cycle 0 costs
abbrev pub ListCostsItsTable : Type 0
ListCostsItsTable = (d : Domain) (streams : List Asked) (link active_cycle : ℕ) → AreGranted d [] streams →
    link_cost (held_in d (with_all d [] streams) 0) link active_cycle ≡ cost_of_all d streams link active_cycle

-- if the streams of a list are all admitted before cycle 0, no two of them have the same name, so the stream of a name is the first of that
-- name
abbrev pub AdmittedHaveNames : Type 0
AdmittedHaveNames = (d : Domain) (streams : List Asked) → AreGranted d [] streams → AllPairs (λ (a b : Asked). a.name ≢ b.name) streams

abbrev pub OneOfAName : Type 0
OneOfAName = (d : Domain) (streams : List Asked) (asked : Asked) → AreGranted d [] streams → Contains streams asked →
    find (λ (other : Asked). is_text other.name asked.name) streams ≡ Some asked

-- each start of a book of such a history is timely by the most that the list costs in the cycles of the start's stream, if each
-- stream of the list has a valid pace
abbrev pub HistoryIsTimely : Type 0
HistoryIsTimely =
    (d : Domain) (entries : List Recorded) (offers : List Offer) (background : List Background) (cycles : ℕ) (book : Contents) (streams : List Asked) →
    IsAccepted d → IsLegalHistory d entries → AreOffers d offers → AreBackground d background →
    IsBookOfHistory d entries offers background cycles book → AdmitsOnly streams entries → ArePaced streams → (s : Started) → Contains book.starts s →
    (shift : InShift (run_of_history d entries offers background cycles) (length (tables_of d entries cycles)) s.frame s.link s.cycle.0) →
    (of : IsOfList d streams shift.row) × IsTimely d s.link shift.hop_number (most_beside_all d streams of.asked s.link) shift.x.offer.at.0 (whole_of d s)
