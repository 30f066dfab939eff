-- The starts of a cycle are among those of the run.
use Rattle.std.proofs.Common.{ℕ, ◌<◌, All, length}
use Rattle.std.proofs.lemmas.List.Elements.{All-contains}
use Rattle.cqf_lists.specs.Lists.{each_below}
use Rattle.cqf_lists.proofs.EachBelow.{contains_below}
use Rattle.cqf_lists.proofs.Members.{all_from_members}
use Rattle.cqf_instants.specs.Meaning.{Given}
use Rattle.cqf_instants.specs.Progress.{starts_of_cycle}
use Rattle.cqf_model.specs.declared.frames.Started.{Started}
use Rattle.cqf_model.specs.Book.{starts_in, starts_of}

-- so what holds for each start of the run holds for each start of a cycle
pub of_cycle : (P : Started → Type 0) (given : Given) (cycles cycle : ℕ) → cycle < cycles →
    All P (starts_of given.run.domain cycles given.net.carried) → All P (starts_of_cycle given cycle)
of_cycle P given cycles cycle within all =
    all_from_members P (starts_of_cycle given cycle) (λ s c.
    All-contains P (starts_of given.run.domain cycles given.net.carried) s all
    (contains_below (λ (k : ℕ). each_below (starts_in given.run.domain given.net.carried k) (length given.run.domain.links)) cycles cycle s within c))
