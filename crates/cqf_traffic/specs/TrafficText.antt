-- The traffic of a stream's table: what its talker promises, and when its offers begin.
use Rattle.std.specs.Prelude.{ℕ, ◌≤◌, ◌&&◌, Bool, Option, Some, None, Result, Ok, is_none, is_some, find, if◌then◌else◌, ok_or}
use Rattle.std.specs.List.{list_any}
use Rattle.toml.specs.Data.{Data, Members, get_member}
use Rattle.cqf_lists.specs.Results.{and_then}
use Rattle.cqf_topology.specs.Fields.{number_from}
use Rattle.cqf_laws_timing.specs.Traffic.{Traffic}
use Rattle.cqf_traffic.specs.declared.keys.TrafficKey.{TrafficKey}
use Rattle.cqf_traffic.specs.declared.keys.TrafficKey.TheVariants.{Interval, Frames, Size, Jitter, Offset}
use Rattle.cqf_traffic.specs.Keys.{bound_of, default_of, key_text, least_of, most_of, traffic_keys}

-- a stream's traffic as numbers: nanoseconds, frames and octets
pub record TrafficText : Type 0 where
  pub interval : ℕ
  pub frames : ℕ
  pub size : ℕ
  pub jitter : ℕ
  pub offset : ℕ

-- a number that is represented at a key: one that a text may have there, or that the access link makes of it at the edge bridge
pub record IsInRange (key : TrafficKey) (n : ℕ) : Type 0 where
  pub least : least_of key ≤ n
  pub most : n ≤ bound_of key

-- each is represented at its key
pub record IsTrafficText (t : TrafficText) : Type 0 where
  pub interval : IsInRange Interval t.interval
  pub frames : IsInRange Frames t.frames
  pub size : IsInRange Size t.size
  pub jitter : IsInRange Jitter t.jitter
  pub offset : IsInRange Offset t.offset

-- what the talker promises. The instant at which its offers begin isn't part of it
abbrev pub promise_of : TrafficText → Traffic
promise_of t = record { interval = t.interval; frames = t.frames; size = t.size; jitter = t.jitter }

-- the same traffic with another jitter and another beginning
abbrev pub delayed_by : TrafficText → ℕ → ℕ → TrafficText
delayed_by t jitter offset = record { interval = t.interval; frames = t.frames; size = t.size; jitter = jitter; offset = offset }

-- the value at a key of a stream's table
abbrev pub value_at : TrafficKey → Members → Option Data
value_at key table = get_member (key_text key) table

-- whether the table has any of the keys
abbrev pub has_traffic : Members → Bool
has_traffic table = list_any (λ key. is_some (value_at key table)) traffic_keys

-- whether a key must be there if there is traffic, and is absent
abbrev pub is_lacked : Members → TrafficKey → Bool
is_lacked table key = is_none (default_of key) && is_none (value_at key table)

-- the first such key, if there is traffic
abbrev pub first_owed : Members → Option TrafficKey
first_owed table = if has_traffic table then find (is_lacked table) traffic_keys else None

-- the number at a key, given the value there, or the default; the key itself if there is neither a valid number nor a default
abbrev pub number_by : Option Data → TrafficKey → Result ℕ TrafficKey
number_by None key = ok_or (default_of key) key
number_by (Some d) key = ok_or (number_from (least_of key) (most_of key) d) key

abbrev pub number_at : TrafficKey → Members → Result ℕ TrafficKey
number_at key table = number_by (value_at key table) key

-- the traffic of a stream's table, or the first key whose value isn't allowed or is missing
abbrev pub numbers_from : Members → Result TrafficText TrafficKey
numbers_from table =
    and_then (number_at Interval table) (λ interval.
    and_then (number_at Frames table) (λ frames.
    and_then (number_at Size table) (λ size.
    and_then (number_at Jitter table) (λ jitter.
    and_then (number_at Offset table) (λ offset.
    Ok (record { interval = interval; frames = frames; size = size; jitter = jitter; offset = offset }))))))

-- the traffic of a stream's table; none if the table has no key of it
abbrev pub traffic_from : Members → Result (Option TrafficText) TrafficKey
traffic_from table = if has_traffic table then and_then (numbers_from table) (λ t. Ok (Some t)) else Ok None
