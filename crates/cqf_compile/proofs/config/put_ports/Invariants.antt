-- The links so far are put.
use Rattle.std.proofs.Common.{take}
use Rattle.std.specs.List.{flat_map}
use Rattle.cqf_compile.specs.ConfigText.{text_of_link}
use Rattle.cqf_output.specs.Writer.{Puts}
use Rattle.cqf_compile.proofs.config.put_ports.Given as goal

abbrev pub invariant-loop-link : goal.invariant-loop-link
invariant-loop-link g l = Puts g.W.Write.contents l.initial.writer l.writer (flat_map (text_of_link l.domain) (take l.link l.domain.links))
