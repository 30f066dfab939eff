-- The text of the output of the command `port`.
use Rattle.std.specs.Prelude.{ℕ, List}
use Rattle.cqf_model.specs.declared.ports.Start.{Start}
use Rattle.cqf_report.specs.Starts.{text_of_starts}
use Rattle.cqf_units.specs.Timing.{ticks_of_octet}
use Rattle.cqf_units.specs.declared.timing.Rate.{Rate}

-- starts, and the rate of their link
pub record StartsAtRate : Type 0 where
  pub starts : List Start
  pub rate : Rate

-- the text of an output
abbrev pub text_of_port : StartsAtRate → List ℕ
text_of_port output = text_of_starts (ticks_of_octet output.rate) output.starts
