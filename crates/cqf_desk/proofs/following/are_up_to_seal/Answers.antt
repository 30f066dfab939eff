use Rattle.std.proofs.Common.{length, sym, ◌∙◌}
use Rattle.cqf_desk.proofs.Longer.{up_to_seal}
use Rattle.cqf_desk.proofs.following.are_up_to_seal.Goals as goal

pub returns : goal.returns
returns c = λ same.
    up_to_seal c.args.followed.now c.args.rest.now c.split_at.result.0.now c.split_at.result.1.now c.args.number (length c.args.followed.now)
    c.split_at.ensures.front c.split_at.ensures.back (c.are_same_entries.ensures.0 same) (sym c.has_seal.ensures ∙ c.if-has_seal.false)
