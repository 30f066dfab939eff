use Rattle.cqf_output.proofs.EdgeLemmas.{WrittenSoFar-range}
use Rattle.cqf_output.proofs.outputs.write_part.Goals as goal

pub loop-rest-preserved : goal.loop-rest-preserved
loop-rest-preserved g c = WrittenSoFar-range
    (g.W.Write.contents c.args.output.now.writer) (g.W.Write.contents c.loop-rest.output.writer) (g.W.Write.contents c.write.new.self.writer)
    c.args.text.now c.loop-rest.rest.now c.in-Ok.count c.loop-rest.invariant c.in-Ok.ensures.bytes
