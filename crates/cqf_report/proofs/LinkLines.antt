-- The lines of links, one after the other.
use Rattle.std.proofs.Common.{◌≡◌, ℕ, suc, ◌+◌, ◌++◌, List, ap, ◌∙◌, refl, arith}
use Rattle.cqf_lists.specs.Lists.{each_below}
use Rattle.cqf_model.specs.declared.frames.Started.{Started}
use Rattle.cqf_model.specs.Domain.{Domain}
use Rattle.cqf_model.specs.OnLinks.{frames_on, octets_on}
use Rattle.cqf_laws_coverage.specs.InOneCycle.{most_on}
use Rattle.cqf_topology.specs.NodeNames.{name_of_link}
use Rattle.cqf_report.specs.LinkSums.{link_fields, sums_fields}
use Rattle.cqf_report.specs.Written.{line_of_fields}

-- a line comes after those of the links before
pub line_after : (line : ℕ → List ℕ) (link : ℕ) (text : List ℕ) → text ≡ line link → each_below line link ++ text ≡ each_below line (link + 1)
line_after line link text is =
    let next : suc link ≡ link + 1 = omega arith in
    ap (λ (t : List ℕ). each_below line link ++ t) is ∙ ap (λ (n : ℕ). each_below line n) next

-- equal sums give equal lines
pub same_sums : (ends : List ℕ) (frames f octets o most m : ℕ) → frames ≡ f → octets ≡ o → most ≡ m →
    line_of_fields (sums_fields ends frames octets most) ≡ line_of_fields (sums_fields ends f o m)
same_sums ends frames f octets o most m is_frames is_octets is_most = rw (is_frames, is_octets, is_most) refl

-- the line of a link's sums comes after those of the links before
pub one_line_more : (d : Domain) (starts : List Started) (link frames octets most : ℕ) →
    frames ≡ frames_on link starts → octets ≡ octets_on link starts → most ≡ most_on link starts →
    each_below (λ l. line_of_fields (link_fields d starts l)) link ++ line_of_fields (sums_fields (name_of_link d link) frames octets most)
    ≡ each_below (λ l. line_of_fields (link_fields d starts l)) (link + 1)
one_line_more d starts link frames octets most is_frames is_octets is_most =
    line_after (λ l. line_of_fields (link_fields d starts l)) link (line_of_fields (sums_fields (name_of_link d link) frames octets most))
    (same_sums (name_of_link d link) frames (frames_on link starts) octets (octets_on link starts) most (most_on link starts) is_frames is_octets is_most)
