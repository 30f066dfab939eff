-- The names of a domain, looked up.
use Rattle.std.proofs.Common.{◌≡◌, ℕ, List, [], true, false, Option, Some, None, get_or, All, IsTrue, sym, subst, ◌∙◌, refl}
use Rattle.std.proofs.lemmas.Bool.{true≢false}
use Rattle.std.proofs.lemmas.List.Quantifiers.{position-Some}
use Rattle.cqf_units.specs.Name.{is_name}
use Rattle.cqf_model.proofs.Texts.{is_text_same}
use Rattle.cqf_model.specs.Domain.{Domain, is_text, node_or, node_named}
use Rattle.cqf_topology.specs.DomainText.{IsDomain, index_of}

-- a text that isn't a name has no index among names
index_of-other : (text : List ℕ) (names : List (List ℕ)) → All (λ name. IsTrue (is_name name)) names → is_name text ≡ false → index_of text names ≡ None
index_of-other text names named other = by (index_of text names) refl
  where
    -- any index that is found leads to a contradiction
    by : (o : Option ℕ) → index_of text names ≡ o → o ≡ None
    by None at = refl
    by (Some i) at =
        let found = position-Some (λ name. is_text name text) names i [] at in
        let same : get_or names i [] ≡ text = is_text_same _ text found.1 in
        let is : is_name text ≡ true = subst (λ t. IsTrue (is_name t)) same (named i [] found.0) in
        absurd (true≢false (sym is ∙ other))

-- what isn't a name names no node
pub node_named-other : (d : Domain) → IsDomain d → (text : List ℕ) → is_name text ≡ false → node_named d text ≡ None
node_named-other d good text other =
    (λ i. node_or (index_of-other text d.bridges good.bridges_named other i) (index_of-other text d.stations good.stations_named other i))
