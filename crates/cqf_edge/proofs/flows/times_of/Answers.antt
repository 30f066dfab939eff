use Rattle.std.proofs.Common.{◌∙◌, arith, sym}
use Rattle.cqf_edge.proofs.flows.times_of.Goals as goal

pub times-one-requires : goal.times-one-requires
times-one-requires c =
    c.requires c.loop-passage.passage-index c.passage-item.result (omega (arith, c.loop-passage-test.true)) c.in-Some.passage
    (sym c.passage-item.is ∙ c.in-Some.is)
