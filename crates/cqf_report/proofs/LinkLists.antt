-- The octets of starts, listed link by link.
use Rattle.std.proofs.Common.{◌≡◌, ◌∙◌, ◌<◌, ℕ, Bool, List, filter, ap, length, sum, get_or}
use Rattle.std.specs.Prelude.{◌==◌}
use Rattle.std.specs.Global.{Global}
use Rattle.std.specs.declared.vec.Vec.{Vec}
use Rattle.std.proofs.lemmas.List.{length-map}
use Rattle.std.proofs.lemmas.List.Sums.{length-filter, sum-map}
use Rattle.cqf_lists.specs.ByNumber.{lists_of}
use Rattle.cqf_lists.proofs.ByNumber.{list_there}
use Rattle.cqf_lists.proofs.Sums.{sum_filter}
use Rattle.cqf_model.specs.declared.frames.Started.{Started}
use Rattle.cqf_model.specs.OnLinks.{frames_on, octets_on}
use Rattle.cqf_report.specs.ByLink.{AreListsByLink, octets_listed}

module _ (starts : List Started) (lists : List (Vec ℕ Global)) (link index : ℕ) (list d : Vec ℕ Global)
    (by_link : AreListsByLink starts 65536 (lists_of lists)) (below : link < 65536) (at : index ≡ link) (there : list ≡ get_or lists index d) where
  -- the list of a link has the octets of the starts on it
  listed : list.items ≡ octets_listed starts link
  listed = list_there (octets_listed starts) 65536 lists link index list d by_link below at there

  -- so its length is the number of starts on the link
  pub listed_frames : length list.items ≡ frames_on link starts
  listed_frames =
      let on : Started → Bool = λ start. start.link == link in
      ap length listed ∙ length-map (filter on starts) (λ (s : Started). s.octets) ∙ length-filter on starts

  -- and its sum is that of their octets
  pub listed_octets : sum list.items ≡ octets_on link starts
  listed_octets =
      let on : Started → Bool = λ start. start.link == link in
      ap sum listed ∙ sum-map (λ (s : Started). s.octets) (filter on starts) ∙ sum_filter (λ (s : Started). s.octets) on starts
