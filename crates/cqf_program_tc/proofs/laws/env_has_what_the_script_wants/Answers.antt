use Rattle.cqf_program_tc.proofs.EnvLemmas.{env_wanted}
use Rattle.cqf_program_tc.proofs.laws.env_has_what_the_script_wants.Goals as goal

pub returns : goal.returns
returns c = env_wanted
