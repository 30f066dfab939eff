-- The texts of an option that may be given several times.
use Rattle.std.specs.Prelude.{List, [], unwrap_or}
use Rattle.clap.specs.Words.{Row, Text, all_of}

-- they are in the order of the words; there are none if it isn't given
abbrev pub texts_of : Text → List Row → List Text
texts_of option rows = unwrap_or (all_of option rows) []
