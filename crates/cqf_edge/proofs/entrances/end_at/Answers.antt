use Rattle.std.proofs.Common.{sym}
use Rattle.cqf_edge.proofs.NameLemmas.{end_differs}
use Rattle.cqf_edge.proofs.entrances.end_at.Goals as goal

pub returns-then-paths-names : goal.returns-then-paths-names
returns-then-paths-names c = sym (end_differs _ c.args.names.now c.args.paths.now c.if-paths-names.true)
