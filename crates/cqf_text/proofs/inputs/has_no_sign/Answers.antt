use Rattle.cqf_text.proofs.PartLemmas.{one_part-unfound}
use Rattle.cqf_text.proofs.inputs.has_no_sign.Goals as goal

pub returns : goal.returns
returns c = one_part-unfound c.args.text.now c.memchr.result c.is_none.result c.memchr.ensures c.is_none.ensures
