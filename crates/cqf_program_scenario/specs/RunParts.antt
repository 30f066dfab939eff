-- The texts of the parts of a run that were found.
use Rattle.std.specs.Prelude.{option_map}
use Rattle.cqf_program_scenario.specs.declared.parts.RunParts.{RunParts}
use Rattle.cqf_program_scenario.specs.Parts.{RunTexts}

-- the texts of the parts
abbrev pub texts_of : RunParts → RunTexts
texts_of parts = record {
  domain = parts.domain.now;
  streams = parts.streams.now;
  script = parts.script.now;
  offers = parts.offers.now;
  background = option_map (λ text. text.now) parts.background;
}
