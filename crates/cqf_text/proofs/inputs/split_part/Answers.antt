use Rattle.cqf_text.proofs.PartLemmas.{Passed-start, Passed-line, Passed-divider}
use Rattle.cqf_text.proofs.inputs.split_part.Goals as goal

pub loop-rest-init : goal.loop-rest-init
loop-rest-init c = Passed-start c.args.input.now

pub loop-rest-preserved : goal.loop-rest-preserved
loop-rest-preserved c = Passed-line c.args.input.now c.loop-rest.rest.now c.split_whole_line.result.0.now
    c.split_whole_line.result.1.now c.loop-rest.invariant c.split_whole_line.ensures.line c.split_whole_line.ensures.rest c.if-divides.ensures

pub returns-then-divides-clause-parts : goal.returns-then-divides-clause-parts
returns-then-divides-clause-parts c = Passed-divider c.args.input.now c.loop-rest.rest.now c.split_whole_line.result.0.now
    c.split_whole_line.result.1.now c.loop-rest.invariant c.split_whole_line.ensures.line c.split_whole_line.ensures.rest c.if-divides.ensures
