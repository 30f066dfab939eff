-- The calls of a history by the seats that made them, and what was requested at each seat.
use Rattle.std.specs.Prelude.{ℕ, ◌≡◌, ◌+◌, ◌<◌, ◌==◌, List, All, Some, drop, filter, length, map, replicate, slice_get, take}
use Rattle.cqf_model.specs.Domain.{Domain}
use Rattle.cqf_model.specs.History.{Act, IsLegalHistory, Recorded, Seals}

-- what the entries call for, in order
abbrev pub acts_of : List Recorded → List Act
acts_of entries = map (λ (e : Recorded). e.act) entries

-- the entries of one seat, in order
abbrev pub calls_by : ℕ → List Recorded → List Recorded
calls_by number entries = filter (λ (e : Recorded). e.seat == number) entries

-- a legal history that begins with its opening part. After that, each administrator's entries call for what was requested of that
-- administrator, all of it and in order; the entries of the next seat are one Seal for each cycle; and there are no others
pub record IsHistoryOf (d : Domain) (opening : List Recorded) (asked : List (List Act)) (cycles : ℕ) (entries : List Recorded) : Type 0 where
  pub legal : IsLegalHistory d entries
  pub begins : take (length opening) entries ≡ opening
  pub calls : (admin : ℕ) (acts : List Act) → slice_get asked admin ≡ Some acts → acts_of (calls_by admin (drop (length opening) entries)) ≡ acts
  pub seals : acts_of (calls_by (length asked) (drop (length opening) entries)) ≡ replicate cycles Seals
  pub known : All (λ (e : Recorded). e.seat < length asked + 1) (drop (length opening) entries)
