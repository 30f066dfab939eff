-- The ports so far are put, and it is known whether there is none.
use Rattle.cqf_output.specs.Writer.{Puts}
use Rattle.cqf_program_json.specs.Text.{port_text}
use Rattle.cqf_program_json.proofs.Listing.{ArePorts}
use Rattle.cqf_program_json.proofs.ports.put_ports.Given as goal

abbrev pub invariant-loop-link : goal.invariant-loop-link
invariant-loop-link g l =
    ArePorts (λ text. Puts g.W.Write.contents l.initial.writer l.writer text) (port_text l.wired.domain.now l.wired.links.now) l.wired.domain.now l.bridge l.link
    l.is_first
