-- The number of starts on a link, and their octets.
use Rattle.std.specs.Prelude.{ℕ, ◌==◌, List, count_by, if◌then◌else◌, sum_by}
use Rattle.cqf_model.specs.declared.frames.Started.{Started}

-- the number of the starts that are on the link
abbrev pub frames_on : ℕ → List Started → ℕ
frames_on link starts = count_by (λ (start : Started). start.link == link) starts

-- the total octets of the starts that are on the link
abbrev pub octets_on : ℕ → List Started → ℕ
octets_on link starts = sum_by (λ (start : Started). if start.link == link then start.octets else 0) starts
