-- The keys of a stream's traffic (the terms are those of IEEE Std 802.1Q-2018, 46.2.3.5).
use Rattle.std.specs.Prelude.{ℕ, List, [], ◌∷◌, Option, Some, None, codes}
use Rattle.cqf_traffic.specs.declared.keys.TrafficKey.{TrafficKey}
use Rattle.cqf_traffic.specs.declared.keys.TrafficKey.TheVariants.{Interval, Frames, Size, Jitter, Offset}

-- all keys, in reading order
abbrev pub traffic_keys : List TrafficKey
traffic_keys = Interval ∷ Frames ∷ Size ∷ Jitter ∷ Offset ∷ []

-- a key as a text has it
abbrev pub key_text : TrafficKey → List ℕ
key_text Interval = codes "interval"
key_text Frames = codes "frames"
key_text Size = codes "size"
key_text Jitter = codes "jitter"
key_text Offset = codes "offset"

-- the least number at a key, in nanoseconds, frames or octets
abbrev pub least_of : TrafficKey → ℕ
least_of Interval = 1
least_of Frames = 1
least_of Size = 64
least_of Jitter = 0
least_of Offset = 0

-- the greatest number at a key
abbrev pub most_of : TrafficKey → ℕ
most_of Interval = 1000000000
most_of Frames = 1000
most_of Size = 1522
most_of Jitter = 1000000000
most_of Offset = 1000000000

-- the greatest that is represented. A talker's access link makes a frame later at the edge bridge than its talker promises at the hand-over,
-- so there the jitter may be greater, and the grid begins later
abbrev pub bound_of : TrafficKey → ℕ
bound_of Interval = most_of Interval
bound_of Frames = most_of Frames
bound_of Size = most_of Size
bound_of Jitter = 4000000000
bound_of Offset = 2000000000

-- the default of a key that is absent. An interval and a size must be there
abbrev pub default_of : TrafficKey → Option ℕ
default_of Interval = None
default_of Frames = Some 1
default_of Size = None
default_of Jitter = Some 0
default_of Offset = Some 0
