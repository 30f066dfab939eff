use Rattle.cqf_network.proofs.ShortLemmas.{first_at_no_cost, none_at_no_cost, some_short}
use Rattle.cqf_network.proofs.laws.full_paths_have_a_short_link.Goals as goal

pub returns-clause-short : goal.returns-clause-short
returns-clause-short c = some_short

pub returns-clause-for_nothing : goal.returns-clause-for_nothing
returns-clause-for_nothing c =
    λ links left from to path same. (first_at_no_cost links left from to path same, none_at_no_cost links left from to same)
