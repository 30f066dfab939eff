use Rattle.cqf_program_diff.specs.Description.{description_of}
use Rattle.cqf_program_diff.proofs.Files.{file_ends}
use Rattle.cqf_program_diff.proofs.command.description_in.Goals as goal

pub returns-in-Err-clause-err : goal.returns-in-Err-clause-err
returns-in-Err-clause-err c =
    file_ends (description_of c.args.limits c.args.document) c.args.which.now c.in-Err.stop c.file_stop.result c.in-Err.ensures.err c.file_stop.ensures.refused
    c.file_stop.ensures.other
