use Rattle.cqf_traffic.specs.Offering.{words_of}
use Rattle.cqf_traffic.proofs.Putting.{ArePut}
use Rattle.cqf_traffic.proofs.making.put_blocks.Given as goal

abbrev pub invariant-loop-block : goal.invariant-loop-block
invariant-loop-block l = ArePut l.until.end.0 l.sender l.traffic (words_of l.until.seed l.number) l.initial.list.items l.block l.talker l.list.items
