use Rattle.std.proofs.Common.{◌==◌, ◌∙◌, ap, sym}
use Rattle.std.specs.List.{position}
use Rattle.cqf_worker_loops.specs.Workers.{SegmentPort}
use Rattle.cqf_worker.proofs.Unwiring.{no_index, one_lost, partner_found}
use Rattle.cqf_worker.proofs.closing.take_partner.Goals as goal

-- the first end of the link
pub returns-in-Some-clause-some : goal.returns-in-Some-clause-some
returns-in-Some-clause-some c =
    partner_found c.args.outs.now.items c.args.link c.in-Some.index c.remove.result
    (sym (c.in-Some.ensures ∙ ap (position (λ (out : SegmentPort). out.link == c.args.link)) c.as_slice.ensures.value)) c.remove.ensures.value

-- it is removed, and no other
pub returns-in-Some-clause-one : goal.returns-in-Some-clause-one
returns-in-Some-clause-one c =
    one_lost c.args.outs.now.items c.remove.new.self.items c.args.link c.in-Some.index c.remove.result
    (sym (c.in-Some.ensures ∙ ap (position (λ (out : SegmentPort). out.link == c.args.link)) c.as_slice.ensures.value)) c.remove.ensures.items

-- there is none
pub returns-in-None-clause-none : goal.returns-in-None-clause-none
returns-in-None-clause-none c =
    no_index (λ (out : SegmentPort). out.link == c.args.link) c.args.outs.now.items
    (sym (c.in-None.ensures ∙ ap (position (λ (out : SegmentPort). out.link == c.args.link)) c.as_slice.ensures.value))
