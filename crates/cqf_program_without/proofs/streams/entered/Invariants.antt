use Rattle.std.proofs.Common.{◌≡◌, drop}
use Rattle.std.specs.Prelude.{find}
use Rattle.toml.specs.View.{table_view}
use Rattle.cqf_program_without.specs.Streams.{entered}
use Rattle.cqf_program_without.proofs.streams.entered.Given as goal

-- the stream enters by none of the links so far
abbrev pub invariant-loop-link : goal.invariant-loop-link
invariant-loop-link l = entered (drop l.link-index l.links) (table_view l.table) ≡ entered l.links (table_view l.table)
