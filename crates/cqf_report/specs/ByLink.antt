-- The octets of starts, link by link.
use Rattle.std.specs.Prelude.{ℕ, ◌==◌, List, filter, map}
use Rattle.cqf_lists.specs.ByNumber.{AreListsBy}
use Rattle.cqf_model.specs.declared.frames.Started.{Started}

-- the octets of the starts on a link, in the order of the starts
abbrev pub octets_listed : List Started → ℕ → List ℕ
octets_listed starts link = map (λ (start : Started). start.octets) (filter (λ (start : Started). start.link == link) starts)

-- a list for each of `links` links from 0 on: the octets of the starts on the link
abbrev pub AreListsByLink : List Started → ℕ → List (List ℕ) → Type 0
AreListsByLink starts links lists = AreListsBy (octets_listed starts) links lists
