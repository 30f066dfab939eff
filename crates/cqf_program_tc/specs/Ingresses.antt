-- What is noted of the ingresses by which streams arrive at a bridge.
use Rattle.std.specs.Prelude.{ℕ, ◌≡◌, ◌<◌, List, Bool, true, false, Option, Some, None, if◌then◌else◌, length, not, slice_index_or}
use Rattle.std.specs.List.{list_any}
use Rattle.cqf_model.specs.declared.topology.Row.{Row}
use Rattle.cqf_model.specs.Domain.{Domain}
use Rattle.cqf_model.specs.Table.{same_ingress}
use Rattle.cqf_program_tc.specs.Bridge.{comes_by}

-- for each link it is noted whether some stream arrives over it
pub record IsSeenIngress (d : Domain) (bridge : ℕ) (before : List Row) (seen : List Bool) : Type 0 where
  pub size : length seen ≡ 65536
  pub each : (link : ℕ) → link < 65536 → slice_index_or seen link false ≡ list_any (comes_by d bridge link) before

-- whether no stream was noted that arrives this way
abbrev pub is_unseen : List Bool → Option ℕ → Bool
is_unseen seen None = true
is_unseen seen (Some link) = not (slice_index_or seen link false)

-- one more ingress is noted
pub record NotesIngress (before : List Bool) (ingress : Option ℕ) (after : List Bool) : Type 0 where
  pub size : length after ≡ length before
  pub each : (link : ℕ) → link < length before → slice_index_or after link false ≡ (if same_ingress ingress (Some link) then true else slice_index_or before link false)
