-- A row of those that are put has a good pace.
use Rattle.std.proofs.Common.{sym}
use Rattle.cqf_compile.proofs.config.put_rows.Goals as goal

pub put_row-requires-clause-paced : goal.put_row-requires-clause-paced
put_row-requires-clause-paced g c = c.requires.paced c.row-item.result (c.loop-row.row-index, c.loop-row-test.true, sym c.row-item.is)
