use Rattle.std.proofs.Common.{◌++◌, codes}
use Rattle.cqf_output.proofs.WriterLemmas.{Puts-as, Puts-then}
use Rattle.cqf_program_plans.proofs.load.reported.put_access_name.Goals as goal

pub returns : goal.returns
returns g c =
    let l = c.args.load.now in
    let put_from = Puts-as c.as_bytes.result.now l.from c.as_bytes.ensures.value c.put.ensures in
    let put_to = Puts-as c.as_bytes-2.result.now l.to c.as_bytes-2.ensures.value c.put-2.ensures in
    Puts-then l.from (codes ">" ++ l.to) put_from (Puts-then (codes ">") l.to c.put_byte.ensures put_to)
