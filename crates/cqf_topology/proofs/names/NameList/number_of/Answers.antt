use Rattle.std.proofs.Common.{◌≡◌, ◌∙◌, ◌<◌, [], ℕ, List, None, Option, Some, ap, length, sym}
use Rattle.std.specs.Prelude.{IfSome}
use Rattle.std.proofs.lemmas.List.Quantifiers.{position-Some}
use Rattle.cqf_model.specs.Domain.{is_text}
use Rattle.cqf_topology.specs.DomainText.{index_of}
use Rattle.cqf_topology.specs.Names.{Numbered}
use Rattle.cqf_topology.proofs.names.NameList.number_of.Goals as goal

-- the index of a name is below the number of names
inside : (name : List ℕ) (names : List (List ℕ)) (found : Option ℕ) → found ≡ index_of name names → IfSome found (λ number. number < length names)
inside name names None is = tt
inside name names (Some number) is = (position-Some (λ other. is_text other name) names number [] (sym is)).0

pub returns-clause-number : goal.returns-clause-number
returns-clause-number c =
    c.copied.ensures ∙ c.get.ensures.value ∙ c.self.invariant c.args.name.now ∙ ap (λ (n : Numbered). index_of c.args.name.now n.keys) c.self.view_is

pub returns-clause-within : goal.returns-clause-within
returns-clause-within c = inside c.args.name.now c.args.self.now.keys c.copied.result (returns-clause-number c)
