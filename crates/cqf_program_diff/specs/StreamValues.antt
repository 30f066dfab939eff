-- What a stream's texts mean.
use Rattle.std.specs.Prelude.{ℕ, ◌≡◌, List, [], ◌∷◌, decimal, string_bytes}
use Rattle.cqf_topology.specs.PacedText.{PacedText}
use Rattle.cqf_program_diff.specs.declared.streams.RequestTexts.{RequestTexts}
use Rattle.cqf_program_diff.specs.declared.streams.TrafficTexts.{TrafficTexts}
use Rattle.cqf_program_diff.specs.Texts.{paths_text}

-- what is promised, in the order of the keys
abbrev pub values_of_texts : TrafficTexts → List (List ℕ)
values_of_texts t = string_bytes t.interval ∷ string_bytes t.frames ∷ string_bytes t.size ∷ string_bytes t.jitter ∷ string_bytes t.offset ∷ []

-- the texts are those of what a stream asks for
pub record AreTextsOf (request : PacedText) (texts : RequestTexts) : Type 0 where
  pub name_is : string_bytes texts.name ≡ request.name
  pub path_is : string_bytes texts.path ≡ paths_text request.paths
  pub octets_is : string_bytes texts.octets ≡ decimal request.octets
  pub every_is : string_bytes texts.every ≡ decimal request.every
  pub phase_is : string_bytes texts.phase ≡ decimal request.phase
