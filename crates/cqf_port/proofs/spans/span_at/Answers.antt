use Rattle.std.proofs.Common.{◌^◌, ◌-◌, refl, arith}
use Rattle.cqf_port.proofs.Staying.{span_closed, span_always, span_until}
use Rattle.cqf_port.proofs.spans.span_at.Goals as goal

-- the class is closed
pub returns-in-Closed : goal.returns-in-Closed
returns-in-Closed c = span_closed c.args.list.now c.args.class c.args.t (2 ^ 63) c.in-Closed.ensures.span

-- it never closes
pub returns-in-Always : goal.returns-in-Always
returns-in-Always c = span_always c.args.list.now c.args.class c.args.t (2 ^ 63) (2 ^ 64 - 1) (omega arith) (c.in-Always.ensures.always refl)

-- it closes
pub returns-in-Until : goal.returns-in-Until
returns-in-Until c = span_until c.args.list.now c.args.class c.args.t (2 ^ 63) c.in-Until.closed.0 c.in-Until.ensures.span.0
    c.in-Until.ensures.span.1 c.in-Until.ensures.span.2
