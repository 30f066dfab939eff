use Rattle.cqf_program_json.proofs.Objects.{lists_held}
use Rattle.cqf_program_json.proofs.laws.json_holds_the_lists.Goals as goal

pub returns : goal.returns
returns c = lists_held
