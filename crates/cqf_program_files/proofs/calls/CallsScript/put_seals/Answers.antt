use Rattle.std.proofs.Common.{codes, replicate, subst}
use Rattle.cqf_program_files.specs.Calls.{HasPut, numbered}
use Rattle.cqf_program_files.proofs.Scripts.{put_more, put_nothing, seals_more}
use Rattle.cqf_program_files.proofs.calls.CallsScript.put_seals.Goals as goal

pub loop-seal-init : goal.loop-seal-init
loop-seal-init c = put_nothing c.args.self.now

pub loop-seal-preserved : goal.loop-seal-preserved
loop-seal-preserved c =
    let count = c.loop-seal._seal in
    subst (HasPut c.args.self.now c.put.new.self) (seals_more c.args.number count)
    (put_more c.args.self.now c.loop-seal.self c.put.new.self (numbered c.args.number (replicate count (codes "seal"))) (c.args.number, codes "seal")
    c.loop-seal.invariant c.in_ok-put.ensures)
