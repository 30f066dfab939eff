-- A follower of a history, for a seat.
use Rattle.std.specs.Prelude.{ℕ, ◌≡◌, ◌≤◌, ◌++◌, List, [], ◌∷◌, false, length, Option, None, Some, Result, Ok, Err}
use Rattle.std.specs.List.{list_any}
use Rattle.std.specs.declared.alloc.AllocError.{AllocError}
use Rattle.cqf_model.specs.History.{Recorded, Seals}
use Rattle.cqf_model.specs.declared.history.Reply.TheVariants.{Sealed}
use Rattle.cqf_admission.specs.Admission.{Administration}
use Rattle.cqf_admission.specs.Tables.{CycleTable}
use Rattle.cqf_desk.specs.Closing.{is_seal_by, tables_by}
use Rattle.cqf_desk.specs.declared.again.Made.{Made}
use Rattle.cqf_desk.specs.declared.again.Made.TheVariants as made
use Rattle.cqf_desk.specs.declared.following.Followed.{Followed}
use Rattle.cqf_desk.specs.declared.following.Followed.TheVariants as followed
use Rattle.cqf_desk.specs.declared.following.Follower.{Follower}

-- these are the tables that a seat's Seals close in the history that was followed
pub record HasTables (f : Follower) (number : ℕ) (tables : List CycleTable) : Type 0 where
  pub begun : f.first ≤ length f.admission.entries
  pub own : tables ≡ tables_by f.admission.domain f.admission.entries f.first number

-- there is at most one follower; if there is one, these are the seat's tables by it
abbrev pub AreFollowed : List Follower → ℕ → List CycleTable → Type 0
AreFollowed [] number tables = Unit {0}
AreFollowed (f ∷ []) number tables = HasTables f number tables
AreFollowed (f ∷ g ∷ more) number tables = ⊥

-- a follower has made exactly these calls after its earlier ones, each with its answer
pub record HasMade (old new : Follower) (calls : List Recorded) : Type 0 where
  pub first : new.first ≡ old.first
  pub domain : new.admission.domain ≡ old.admission.domain
  pub entries : new.admission.entries ≡ old.admission.entries ++ calls

-- a Seal of a seat
abbrev pub own_seal : ℕ → Recorded
own_seal number = record { seat = number; act = Seals; reply = Sealed }

-- a follower continues with calls by which the seat closes no table; or with such calls and a Seal of the seat that closes this table
abbrev pub KeepsTables : Follower → Follower → ℕ → Type 0
KeepsTables old new number = (tables : List CycleTable) → HasTables old number tables → HasTables new number tables

abbrev pub AddsTable : Follower → Follower → ℕ → CycleTable → Type 0
AddsTable old new number table = (tables : List CycleTable) → HasTables old number tables → HasTables new number (tables ++ table ∷ [])

-- how far a follower got with calls by which the seat closes no table. If an allocation failed, the follower can continue from there
abbrev pub FollowsSeat : Follower → Follower → ℕ → List Recorded → Followed → Type 0
FollowsSeat old new number calls followed.All = KeepsTables old new number × HasMade old new calls
FollowsSeat old new number calls followed.Otherwise = Unit {0}
FollowsSeat old new number calls followed.Memory = KeepsTables old new number

-- the seat's own Seal, which closes a table
abbrev pub ClosesOwn : Follower → Follower → ℕ → Made → Type 0
ClosesOwn old new number made.Answered = ⊥
ClosesOwn old new number (made.Closed table) = AddsTable old new number table × HasMade old new (own_seal number ∷ [])
ClosesOwn old new number made.Otherwise = Unit {0}
ClosesOwn old new number made.Memory = KeepsTables old new number

-- if a seat's tables were those of its follower before, they still are
abbrev pub StayFollowed : List Follower → List Follower → ℕ → Type 0
StayFollowed old new number = (tables : List CycleTable) → AreFollowed old number tables → AreFollowed new number tables

-- the follower has one more table of the seat, if one is returned; there is no follower if none is returned
abbrev pub AreFollowedWith : List Follower → ℕ → List CycleTable → Result (Option CycleTable) AllocError → Type 0
AreFollowedWith followers number tables (Ok None) = followers ≡ []
AreFollowedWith followers number tables (Ok (Some own)) = AreFollowed followers number (tables ++ own ∷ [])
AreFollowedWith followers number tables (Err fault) = AreFollowed followers number tables

-- the followed calls come first, and the seat doesn't seal after them
abbrev pub IsUpToSeal : List Recorded → List Recorded → ℕ → Type 0
IsUpToSeal followed rest number =
    (more : List Recorded) × (rest ≡ followed ++ more) × (list_any (λ (e : Recorded). is_seal_by number e) more ≡ false)

-- the seat's Seals close the same tables in the history that was followed as in the history with these calls after the opening part
abbrev pub HasFollowed : Follower → Administration → List Recorded → ℕ → Type 0
HasFollowed f opening rest number = (tables : List CycleTable) → HasTables f number tables →
    tables ≡ tables_by opening.domain (opening.entries ++ rest) (length opening.entries) number
