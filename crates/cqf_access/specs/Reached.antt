-- The bound of an access link's waits is reached.
use Rattle.std.specs.Prelude.{ℕ, ◌≡◌, ◌+◌, ◌<◌, ◌≤◌, ◌++◌, ◌∷◌, [], List, Contains}
use Rattle.cqf_laws_timing.specs.Traffic.{IsTraffic, Traffic}
use Rattle.cqf_access.specs.Access.{AccessLink, AccessStream, Crossing, IsSent, Other, promises_of, taken_of}
use Rattle.cqf_access.specs.Bounding.{IsLeastBound}

-- there is a link that sends as required, with streams that have these promises, on which a frame of the stream with the promise `t` starts
-- as late as the bound `time` allows
pub record IsReached (link : AccessLink) (promises : List Traffic) (t : Traffic) (time : ℕ) : Type 0 where
  pub streams : List AccessStream
  pub others : List Other
  pub sent : IsSent link streams others
  pub promised : promises_of streams ≡ promises
  pub stream : AccessStream
  pub crossing : Crossing
  pub is_stream : Contains streams stream
  pub is_promise : stream.promise ≡ t
  pub is_crossing : Contains stream.crossings crossing
  pub late : crossing.start + taken_of link t.size ≡ crossing.frame.at.0 + time

-- within this time a talker hands over at most the frames of one interval
pub record IsWithinInterval (time : ℕ) (t : Traffic) : Type 0 where
  pub is_traffic : IsTraffic t
  pub short : time + t.jitter ≤ t.interval

-- if the least bound is that short, no law could promise less: for any promises of the streams, a frame of the last of them may have to
-- wait for a frame of no stream and for all others that are handed over with it
abbrev pub LeastBoundIsReached : Type 0
LeastBoundIsReached =
    (link : AccessLink) (before : List Traffic) (t : Traffic) (time : ℕ) → 0 < link.octet_time →
    ((u : Traffic) → Contains (before ++ t ∷ []) u → IsWithinInterval time u) → IsLeastBound link (before ++ t ∷ []) time →
    IsReached link (before ++ t ∷ []) t time
