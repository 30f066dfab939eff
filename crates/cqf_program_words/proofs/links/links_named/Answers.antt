use Rattle.std.proofs.Common.{sym}
use Rattle.cqf_program_words.proofs.LinkLemmas.{no_links}
use Rattle.cqf_program_words.proofs.links.links_named.Goals as goal

-- this word names no link
pub returns-in_default : goal.returns-in_default
returns-in_default c = no_links c.args.words.now c.loop-word.word-index _ c.loop-word-test.true (sym c.in_default.ensures)
