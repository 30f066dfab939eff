use Rattle.std.proofs.Common.{refl}
use Rattle.cqf_output.proofs.WriterLemmas.{Puts-past}
use Rattle.cqf_output.proofs.writer.Writer.write_past.Goals as goal

pub returns : goal.returns
returns g c = Puts-past g.W.Write.contents c.args.self.now _ c.args.bytes.now refl c.requires refl c.write_on.ensures
