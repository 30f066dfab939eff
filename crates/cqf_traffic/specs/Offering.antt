-- What streams with traffic offer up to an instant: blocks of frames on a regular grid, each late by chance if there is a seed.
use Rattle.std.specs.Prelude.{ℕ, zero, suc, ◌+◌, ◌-◌, ◌*◌, ◌/◌, ◌^◌, ◌==◌, List, [], ◌∷◌, ◌++◌, Option, Some, None, filter, if◌then◌else◌, max, nat_lt, option_map, sum_by}
use Rattle.rand_pcg.specs.Lcg.{Lcg, increment_of, started}
use Rattle.rand_pcg.specs.Pcg.{multiplier_64, pcg32}
use Rattle.cqf_lists.specs.Lists.{each_below}
use Rattle.cqf_model.specs.declared.frames.Offer.{Offer}
use Rattle.cqf_traffic.specs.TrafficText.{TrafficText}
use Rattle.cqf_traffic.specs.declared.senders.TalkerStream.{TalkerStream}

-- the instant of a block on the grid, in nanoseconds; blocks are numbered from 0
abbrev pub on_grid : TrafficText → ℕ → ℕ
on_grid t block = t.offset + block * t.interval

-- the number of blocks on the grid before an instant
abbrev pub blocks_before : ℕ → TrafficText → ℕ
blocks_before until t = (until - t.offset + t.interval - 1) / t.interval

-- the generator of a stream, given the seed and the stream's number from 0, and the generator after some words; without a seed there is
-- none
abbrev pub words_of : Option ℕ → ℕ → Option Lcg
words_of seed number = option_map (λ (s : ℕ). started 64 multiplier_64 (s * 2 ^ 32) (increment_of 64 number)) seed

abbrev pub after_word : Option Lcg → Option Lcg
after_word words = option_map (λ (g : Lcg). (pcg32 g).1) words

abbrev pub words_after : Option Lcg → ℕ → Option Lcg
words_after words zero = words
words_after words (suc block) = after_word (words_after words block)

-- how late the next word makes a block: from 0 to the jitter, with equal shares of all words; 0 without a word
abbrev pub late_by : ℕ → Option Lcg → ℕ
late_by jitter None = 0
late_by jitter (Some g) = (pcg32 g).0 * (jitter + 1) / 2 ^ 32

-- the instant of the last of the first blocks: each may be late, but none comes before the previous one
abbrev pub reached : TrafficText → Option Lcg → ℕ → ℕ
reached t words zero = 0
reached t words (suc block) = max (reached t words block) (on_grid t block + late_by t.jitter (words_after words block))

-- a frame of a block, and all frames of a block
abbrev pub frame_of : TalkerStream → TrafficText → ℕ → Offer
frame_of sender t at = record { at = record { 0 = at }; bridge = sender.bridge; stream = sender.name; octets = t.size }

abbrev pub block_of : TalkerStream → TrafficText → ℕ → List Offer
block_of sender t at = each_below (λ _. frame_of sender t at ∷ []) t.frames

-- the frames of a block that comes before an instant, and none of a later block
abbrev pub block_before : ℕ → TalkerStream → TrafficText → ℕ → List Offer
block_before until sender t at = if nat_lt at until then block_of sender t at else []

-- what a stream offers before an instant
abbrev pub sent_with : ℕ → TalkerStream → Option Lcg → Option TrafficText → List Offer
sent_with until sender words None = []
sent_with until sender words (Some t) = each_below (λ block. block_before until sender t (reached t words (suc block))) (blocks_before until t)

abbrev pub sent_by : ℕ → Option ℕ → ℕ → TalkerStream → List Offer
sent_by until seed number sender = sent_with until sender (words_of seed number) sender.traffic

-- what streams offer, one stream after the other, numbered from `number` on
abbrev pub sent_from : ℕ → Option ℕ → ℕ → List TalkerStream → List Offer
sent_from until seed number [] = []
sent_from until seed number (sender ∷ more) = sent_by until seed number sender ++ sent_from until seed (number + 1) more

-- the offers by instant, then by the stream's number, then in their order
abbrev pub in_order : ℕ → List Offer → List Offer
in_order until sent = each_below (λ at. filter (λ (x : Offer). x.at.0 == at) sent) until

abbrev pub offers_before : ℕ → Option ℕ → List TalkerStream → List Offer
offers_before until seed senders = in_order until (sent_from until seed 0 senders)

-- the number of frames on the grids before an instant. A seed doesn't add any
abbrev pub frames_of : ℕ → Option TrafficText → ℕ
frames_of until None = 0
frames_of until (Some t) = blocks_before until t * t.frames

abbrev pub frames_before : ℕ → List TalkerStream → ℕ
frames_before until senders = sum_by (λ (s : TalkerStream). frames_of until s.traffic) senders
