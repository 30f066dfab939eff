-- What the history of a closed desk is for the desk's seats.
use Rattle.std.specs.Prelude.{ℕ, Bool, ◌≡◌, ◌+◌, ◌-◌, ◌<◌, ◌⊎◌, List, [], ◌∷◌, ◌==◌, ◌&&◌}
use Rattle.std.specs.Prelude.{if◌then◌else◌, true, Option, None, Some, Result, Ok, Err}
use Rattle.std.specs.Prelude.{All, Contains, drop, length, map, slice_get, take}
use Rattle.std.specs.List.{list_any}
use Rattle.std.specs.Option.{option_map_or}
use Rattle.cqf_lists.specs.Lists.{each_below}
use Rattle.cqf_model.specs.Calls.{calls_by}
use Rattle.cqf_model.specs.Domain.{Domain}
use Rattle.cqf_model.specs.History.{IsLegalHistory, Recorded, is_seal, seals, table_at}
use Rattle.cqf_admission.specs.Admission.{Administration, recorded_of}
use Rattle.cqf_admission.specs.Tables.{CycleTable}
use Rattle.cqf_desk.specs.declared.faults.CloseFault.{CloseFault}
use Rattle.cqf_desk.specs.declared.faults.CloseFault.TheVariants.{SeatMissing, SeatsDisagree, Memory}
use Rattle.cqf_desk.specs.declared.history.History.{History}
use Rattle.cqf_desk.specs.Desk.{Counter, Sitting}

-- whether an entry is a Seal of one seat
abbrev pub is_seal_by : ℕ → Recorded → Bool
is_seal_by number e = (e.seat == number) && is_seal e.act

-- the table of the cycle that a Seal at an index closes
abbrev pub table_closed : Domain → List Recorded → ℕ → CycleTable
table_closed d entries index =
    record { cycle = seals (take index entries); rows = table_at d entries (seals (take index entries)) }

-- the table that one seat closes at an index, if it closes one
abbrev pub closed_by : Domain → List Recorded → ℕ → ℕ → List CycleTable
closed_by d entries number index =
    option_map_or (λ (e : Recorded). if is_seal_by number e then table_closed d entries index ∷ [] else []) (slice_get entries index) []

-- the tables that one seat's Seals close after the first `first` entries, in order
abbrev pub tables_by : Domain → List Recorded → ℕ → ℕ → List CycleTable
tables_by d entries first number = each_below (λ i. closed_by d entries number (first + i)) (length entries - first)

-- the seat's calls are exactly its calls in the history after the first `first` entries, and its tables are those of its Seals there
pub record IsBorneOut (d : Domain) (entries : List Recorded) (first : ℕ) (seat : Sitting) : Type 0 where
  pub calls : seat.calls ≡ calls_by seat.number (drop first entries)
  pub tables : seat.tables ≡ tables_by d entries first seat.number

-- there are as many seats as the desk has, one for each number
pub record AreItsSeats (count : ℕ) (seats : List Sitting) : Type 0 where
  pub many : length seats ≡ count
  pub each : (number : ℕ) → number < count → list_any (λ (s : Sitting). s.number == number) seats ≡ true

-- a legal history that begins with the opening part. The calls after it are those of the seats, and no others
pub record IsOfSeats (opening : List Recorded) (d : Domain) (count : ℕ) (seats : List Sitting) (entries : List Recorded) : Type 0 where
  pub legal : IsLegalHistory d entries
  pub begins : take (length opening) entries ≡ opening
  pub known : All (λ (e : Recorded). e.seat < count) (drop (length opening) entries)
  pub own : All (IsBorneOut d entries (length opening)) seats

-- one of the seats has the number and the property
abbrev pub HasSuch : (Sitting → Type 0) → List Sitting → ℕ → Type 0
HasSuch IsSuch seats number = (seat : Sitting) × Contains seats seat × (seat.number ≡ number) × IsSuch seat

-- the result of comparing the seats with the history: the history bears all of them out; or this is the least number of a seat that it
-- doesn't bear out
abbrev pub ComesToLeast : Domain → List Recorded → ℕ → List Sitting → Option ℕ → Type 0
ComesToLeast d entries first seats None = All (IsBorneOut d entries first) seats
ComesToLeast d entries first seats (Some number) =
    HasSuch (λ (s : Sitting). ¬ IsBorneOut d entries first s) seats number × All (λ (s : Sitting). s.number < number → IsBorneOut d entries first s) seats

-- an administration has the opening part, in the desk's domain
pub record HasOpening (opening held : Administration) : Type 0 where
  pub domain : held.domain ≡ opening.domain
  pub begins : take (length opening.entries) held.entries ≡ opening.entries

-- which number a disagreement has: the least number of a seat that isn't borne out; or the number of seats, if the history doesn't have the
-- opening part, or if all seats are borne out but not all calls after that part are theirs
abbrev pub Disagrees : Administration → ℕ → Administration → List Sitting → ℕ → Type 0
Disagrees opening count held seats number =
    (HasOpening opening held × ComesToLeast held.domain held.entries (length opening.entries) seats (Some number))
    ⊎ ((number ≡ count) × ((¬ HasOpening opening held)
    ⊎ (HasOpening opening held × ComesToLeast held.domain held.entries (length opening.entries) seats None ×
    (¬ All (λ (e : Recorded). e.seat < count) (drop (length opening.entries) held.entries)))))

-- the number of one of the seats, or the number of seats
abbrev pub IsOneOrCount : ℕ → List Sitting → ℕ → Type 0
IsOneOrCount count seats number = (list_any (λ (s : Sitting). s.number == number) seats ≡ true) ⊎ (number ≡ count)

-- why a desk isn't closed: the seats aren't the desk's; or this is the number that the comparison with its history gives. No clause can say
-- which legal history it is, since it is protected by a lock
abbrev pub IsCloseFault : Counter → List Sitting → CloseFault → Type 0
IsCloseFault desk seats SeatMissing = ¬ AreItsSeats desk.seats seats
IsCloseFault desk seats (SeatsDisagree number) =
    AreItsSeats desk.seats seats × (held : Administration) × IsLegalHistory held.domain held.entries × Disagrees desk.opening desk.seats held seats number
IsCloseFault desk seats Memory = AreItsSeats desk.seats seats

-- the result of a comparison
abbrev pub Settles : Administration → ℕ → Administration → List Sitting → Result (Unit {0}) CloseFault → Type 0
Settles opening count held seats (Ok done) = IsOfSeats opening.entries opening.domain count seats held.entries
Settles opening count held seats (Err SeatMissing) = ⊥
Settles opening count held seats (Err (SeatsDisagree seat)) = Disagrees opening count held seats seat
Settles opening count held seats (Err Memory) = Unit {0}

-- the result of closing a desk, given its seats
pub record IsClosed (desk : Counter) (seats : List Sitting) (history : History) : Type 0 where
  pub its : AreItsSeats desk.seats seats
  pub opening : history.opening ≡ length desk.opening.entries
  pub entries : IsOfSeats desk.opening.entries desk.opening.domain desk.seats seats (map recorded_of history.entries.items)
