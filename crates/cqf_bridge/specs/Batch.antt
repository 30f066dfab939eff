-- The streams' frames that a link sends in a cycle, as the next bridge receives them.
use Rattle.std.specs.Prelude.{ℕ, ◌≡◌, ◌^◌, ◌<◌, List, length, map, sum_by}
use Rattle.std.specs.List.{zip}
use Rattle.cqf_units.specs.declared.timing.Nanos.{Nanos}
use Rattle.cqf_model.specs.declared.frames.Sent.{Sent}

-- the batch of a link in a cycle: its frames in order of start
pub record LinkBatch : Type 0 where
  pub link : ℕ
  pub cycle : ℕ
  pub frames : List Sent

-- a frame from four columns
abbrev pub sent_across : Nanos × (ℕ × (ℕ × ℕ)) → Sent
sent_across x = record { start = x.0; frame = x.1.0; stream = x.1.1.0; octets = x.1.1.1 }

-- the frames from columns of their starts, numbers, streams and octets
abbrev pub sents_across : List Nanos → List ℕ → List ℕ → List ℕ → List Sent
sents_across starts frames streams octets = map sent_across (zip starts (zip frames (zip streams octets)))

-- the columns are equally long, and short enough to be summed
pub record AreColumns (starts : List Nanos) (frames streams octets : List ℕ) : Type 0 where
  pub frames_beside : length frames ≡ length starts
  pub streams_beside : length streams ≡ length starts
  pub octets_beside : length octets ≡ length starts
  pub few : length starts < 2 ^ 32

-- the sum of the frames' octets
abbrev pub octets_of_batch : LinkBatch → ℕ
octets_of_batch batch = sum_by (λ (sent : Sent). sent.octets) batch.frames
