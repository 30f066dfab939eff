-- Laws that let an administration keep a running state instead of its whole history: the streams that are held in the next cycle to
-- be closed, and the number of the next stream.
use Rattle.std.specs.Prelude.{ℕ, true, ◌≡◌, ◌≢◌, ◌+◌, ◌-◌, ◌<◌, ◌≤◌, List, [], ◌∷◌, ◌++◌, ◌==◌, if◌then◌else◌, filter, length, map, Some, None, AllPairs}
use Rattle.std.specs.Prelude.{Contains}
use Rattle.cqf_units.specs.Name.{is_name}
use Rattle.cqf_model.specs.declared.history.Refused.{Refused}
use Rattle.cqf_model.specs.declared.history.Reply.{Reply}
use Rattle.cqf_model.specs.declared.history.Reply.TheVariants.{Sealed, Refused as RefusedFor}
use Rattle.cqf_model.specs.declared.topology.Row.{Row}
use Rattle.cqf_model.specs.Domain.{Domain, budget}
use Rattle.cqf_model.specs.History.{Act, Admits, Asked, IsLegalHistory, Recorded, Seals, Withdraws, held_in, is_seal, next_number, refusal_of, reply_to, seals}
use Rattle.cqf_model.specs.History.{pace_of, table_at, tree_of}
use Rattle.cqf_model.specs.Table.{IsTree, is_held, link_cost, row_named}
use Rattle.cqf_model.specs.Limits.{least_reserved, most_calls, most_cycles, most_reserved, most_streams}

-- the entries followed by one more
abbrev pub with_entry : List Recorded → ℕ → Act → Reply → List Recorded
with_entry entries seat act reply = entries ++ record { seat = seat; act = act; reply = reply } ∷ []

-- the streams that are held in the next cycle to be closed, by number, and the number of the next stream
pub record IsState (d : Domain) (entries : List Recorded) (rows : List Row) (next : ℕ) : Type 0 where
  pub held : held_in d entries (seals entries) ≡ rows
  pub number : next_number d entries ≡ next

-- the row of a granted stream, and a row that is marked as withdrawn if it has this number
abbrev pub granted_row : Domain → ℕ → ℕ → Asked → Row
granted_row d number effect asked = record {
  no = number;
  name = asked.name;
  octets = asked.octets;
  overhead = d.overhead;
  pace = pace_of asked;
  tree = record { items = tree_of d asked.paths };
  admitted = record { 0 = effect };
  withdrawn = None;
}

abbrev pub ended_row : ℕ → ℕ → Row → Row
ended_row number effect row =
    if row.no == number then record row { withdrawn = Some (record { 0 = effect }) } else row

-- a legal history stays legal if a call is appended with the reply that is due, and there are then at most `most_cycles` Seals and
-- at most `most_calls` other calls
abbrev pub HistoryGoesOn : Type 0
HistoryGoesOn =
    (d : Domain) (entries : List Recorded) (seat : ℕ) (act : Act) → IsLegalHistory d entries → seals entries + (if is_seal act then 1 else 0) ≤ most_cycles →
    length entries + 1 - (seals entries + (if is_seal act then 1 else 0)) ≤ most_calls →
    IsLegalHistory d (with_entry entries seat act (reply_to d entries act))

-- a Seal adds one Seal; no other entry does
abbrev pub SealsAreCounted : Type 0
SealsAreCounted =
    (entries : List Recorded) (seat : ℕ) (act : Act) (reply : Reply) →
    seals (with_entry entries seat act reply) ≡ seals entries + (if is_seal act then 1 else 0)

-- a request that isn't refused is granted: its stream is held after the others, and takes the next number
abbrev pub GrantedIsHeld : Type 0
GrantedIsHeld =
    (d : Domain) (entries : List Recorded) (rows : List Row) (next seat : ℕ) (asked : Asked) → IsLegalHistory d entries → IsState d entries rows next →
    refusal_of d rows asked ≡ None →
    IsState d (with_entry entries seat (Admits asked) (reply_to d entries (Admits asked))) (rows ++ granted_row d next (seals entries) asked ∷ []) (next + 1)

-- a request that isn't refused finds room among the held streams
abbrev pub GrantedFindsRoom : Type 0
GrantedFindsRoom = (d : Domain) (rows : List Row) (asked : Asked) → refusal_of d rows asked ≡ None → length rows < most_streams

-- a refused call changes nothing
abbrev pub RefusedChangesNothing : Type 0
RefusedChangesNothing =
    (d : Domain) (entries : List Recorded) (rows : List Row) (next seat : ℕ) (act : Act) (refused : Refused) → IsState d entries rows next →
    reply_to d entries act ≡ RefusedFor refused → IsState d (with_entry entries seat act (reply_to d entries act)) rows next

-- a withdrawal marks the stream's row, which is still held
abbrev pub WithdrawnIsHeldOn : Type 0
WithdrawnIsHeldOn =
    (d : Domain) (entries : List Recorded) (rows : List Row) (next seat : ℕ) (name : List ℕ) (row : Row) → IsLegalHistory d entries →
    IsState d entries rows next → row_named rows name ≡ Some row → row.withdrawn ≡ None →
    IsState d (with_entry entries seat (Withdraws name) (reply_to d entries (Withdraws name))) (map (ended_row row.no (seals entries)) rows) next

-- a Seal closes the table of the held streams, and lets go the streams that aren't held in the next cycle
abbrev pub SealLetsGo : Type 0
SealLetsGo =
    (d : Domain) (entries : List Recorded) (rows : List Row) (next seat : ℕ) → IsLegalHistory d entries → IsState d entries rows next →
    IsState d (with_entry entries seat Seals Sealed) (filter (λ (row : Row). is_held row (seals entries + 1)) rows) next

abbrev pub SealClosesTable : Type 0
SealClosesTable =
    (d : Domain) (entries : List Recorded) (rows : List Row) (next seat : ℕ) → IsState d entries rows next →
    table_at d (with_entry entries seat Seals Sealed) (seals entries) ≡ rows

-- what holds for held streams: each has a tree of the domain, a valid name and a reservation within the limits, and was admitted by
-- now; the numbers ascend and are below the next number; the names differ; in any cycle they cost no more of a link than the link's
-- budget; and each row has the domain's overhead
pub record AreHeld (d : Domain) (rows : List Row) (next effect : ℕ) : Type 0 where
  pub trees : (row : Row) → Contains rows row → IsTree d row.tree.items
  pub named : (row : Row) → Contains rows row → is_name row.name ≡ true
  pub least_octets : (row : Row) → Contains rows row → least_reserved ≤ row.octets
  pub most_octets : (row : Row) → Contains rows row → row.octets ≤ most_reserved
  pub below : (row : Row) → Contains rows row → row.no < next
  pub begun : (row : Row) → Contains rows row → row.admitted.0 ≤ effect
  pub numbers : AllPairs (λ (a b : Row). a.no < b.no) rows
  pub names : AllPairs (λ (a b : Row). a.name ≢ b.name) rows
  pub loads : (l cycle : ℕ) → link_cost rows l cycle ≤ budget d l
  pub overheads : (row : Row) → Contains rows row → row.overhead ≡ d.overhead

-- all this holds for the streams that are held after a legal history
abbrev pub HeldAreSound : Type 0
HeldAreSound =
    (d : Domain) (entries : List Recorded) (rows : List Row) (next : ℕ) → IsLegalHistory d entries → IsState d entries rows next →
    AreHeld d rows next (seals entries)
