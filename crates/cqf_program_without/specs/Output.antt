-- The plan of a network file without some of its links.
use Rattle.std.specs.Prelude.{ℕ, ◌≡◌, ◌⊎◌, ◌++◌, ◌==◌, Bool, true, false, List, [], length, Option, option_and_then, Result, Ok, Err, codes}
use Rattle.cqf_lists.specs.Results.{and_then, refuse}
use Rattle.cqf_text.specs.Parts.{parts_of}
use Rattle.cqf_model.specs.declared.limits.Limits.{Limits}
use Rattle.cqf_output.specs.Stops.{fault_line, or_line}
use Rattle.cqf_output.specs.declared.stops.Stop.{Stop}
use Rattle.cqf_network_text.specs.Networks.{table_of}
use Rattle.cqf_network.specs.NetworkDomain.{open_network_of_text}
use Rattle.cqf_program_scenario.specs.Parts.{two_parts}
use Rattle.cqf_program_planning.specs.declared.choosing.Search.{Search}
use Rattle.cqf_program_planning.specs.PlanOutput.{IsPlanOf, IsPlanOfParts, network_line}
use Rattle.cqf_program_words.specs.declared.links.LinkName.{LinkName}
use Rattle.cqf_program_without.specs.Links.{first_unknown}
use Rattle.cqf_program_without.specs.Tables.{IsTextWithout}

-- the line about a link that the network doesn't have
abbrev pub unknown_link_text : LinkName → List ℕ
unknown_link_text link = codes "NoLink " ++ (link.from ++ (codes ">" ++ link.to))

abbrev pub unknown_link_line : LinkName → List ℕ
unknown_link_line link = fault_line (codes "plan") (unknown_link_text link)

-- a network has these links; or the line about the first that it doesn't have
abbrev pub known : List LinkName → List ℕ → Result (Unit {0}) (List ℕ)
known links text = refuse (option_and_then (first_unknown links) (table_of text)) unknown_link_line (Ok tt)

-- the two parts of an input whose domain is accepted and has these links; or the line of the first fault
abbrev pub parts_with : Limits → Option (List ℕ) → List LinkName → List ℕ → Result (List ℕ × List ℕ) (List ℕ)
parts_with limits given links input = and_then (two_parts (parts_of input)) (λ parts.
    and_then (or_line network_line (open_network_of_text limits given parts.0)) (λ network.
    and_then (known links parts.0) (λ _. Ok parts)))

-- the output for two parts without the links: that for their texts without the links
pub record IsPlanOfRest (limits : Limits) (table : Bool) (search : Search) (given : Option (List ℕ)) (links : List LinkName) (domain streams : List ℕ)
    (found : Result (List ℕ) (List ℕ)) : Type 0 where
  pub domain_left : List ℕ
  pub streams_left : List ℕ
  pub of_domain : IsTextWithout links domain domain_left
  pub of_streams : IsTextWithout links streams streams_left
  pub planned : IsPlanOfParts limits table search given domain_left streams_left found

-- and for the parts of an input, or the line of their first fault
abbrev pub IsPlanOfKnown : Limits → Bool → Search → Option (List ℕ) → List LinkName → Result (List ℕ × List ℕ) (List ℕ) → Result (List ℕ) (List ℕ) → Type 0
IsPlanOfKnown limits table search given links (Ok parts) found = IsPlanOfRest limits table search given links parts.0 parts.1 found
IsPlanOfKnown limits table search given links (Err line) found = Err line ≡ found

-- the output for an input as if these links weren't there; if there are no such links, it is that of the input
abbrev pub IsPlanBy : Bool → Limits → Bool → Search → Option (List ℕ) → List LinkName → List ℕ → Result (List ℕ) (List ℕ) → Type 0
IsPlanBy true limits table search given links input found = IsPlanOf limits table search given input found
IsPlanBy false limits table search given links input found = IsPlanOfKnown limits table search given links (parts_with limits given links input) found

abbrev pub IsPlanWithout : Limits → Bool → Search → Option (List ℕ) → List LinkName → List ℕ → Result (List ℕ) (List ℕ) → Type 0
IsPlanWithout limits table search given links input found = IsPlanBy (length links == 0) limits table search given links input found

-- a refusal, with status 1 and the line that says why; or an allocation fails, with status 3: of two parts without the links, of an input that
-- has the links, and of an input as if the links weren't there
pub record IsRestRefusal (limits : Limits) (table : Bool) (search : Search) (given : Option (List ℕ)) (links : List LinkName) (domain streams : List ℕ)
    (stop : Stop) : Type 0 where
  pub statuses : (stop.status ≡ 1) ⊎ (stop.status ≡ 3)
  pub line : stop.status ≡ 1 → IsPlanOfRest limits table search given links domain streams (Err stop.text.items)
  pub memory : stop.status ≡ 3 → stop.text.items ≡ []

pub record IsKnownRefusal (limits : Limits) (table : Bool) (search : Search) (given : Option (List ℕ)) (links : List LinkName) (input : List ℕ) (stop : Stop)
    : Type 0 where
  pub statuses : (stop.status ≡ 1) ⊎ (stop.status ≡ 3)
  pub line : stop.status ≡ 1 → IsPlanOfKnown limits table search given links (parts_with limits given links input) (Err stop.text.items)
  pub memory : stop.status ≡ 3 → stop.text.items ≡ []

pub record IsRefusalWithout (limits : Limits) (table : Bool) (search : Search) (given : Option (List ℕ)) (links : List LinkName) (input : List ℕ) (stop : Stop)
    : Type 0 where
  pub statuses : (stop.status ≡ 1) ⊎ (stop.status ≡ 3)
  pub line : stop.status ≡ 1 → IsPlanWithout limits table search given links input (Err stop.text.items)
  pub memory : stop.status ≡ 3 → stop.text.items ≡ []
