use Rattle.std.proofs.Common.{◌∙◌, ◌++◌, ◌<◌, ◌^◌, All, List, ap, arith, filter, map, subst, sym}
use Rattle.cqf_units.specs.Timing.{cycle_at}
use Rattle.cqf_model.specs.declared.ports.Start.{Start}
use Rattle.cqf_instants_run.specs.Sending.{is_low, reported}
use Rattle.cqf_instants_run.proofs.Tellings.{hands_fit, reports}
use Rattle.cqf_instants_run.proofs.reporting.report_link.Goals as goal

-- each start is in a cycle that has a number
pub report_starts-requires-clause-fits : goal.report_starts-requires-clause-fits
report_starts-requires-clause-fits c =
    subst (λ (xs : List Start). All (λ (start : Start). cycle_at c.cycle_time.result.0 start.start.0 < 2 ^ 32) xs) (sym c.as_slice.ensures.value)
    (hands_fit c.args.domain.now c.args.end.0 c.args.link c.cycle_time.result.0 c.args.arrivals.items c.in_ok-made.made.items c.cycle_time.ensures.value
    (omega (arith, c.cycle_time.ensures.accepted.cycle_least)) c.requires.fits c.in_ok-made.ensures)

-- the entries of what the port starts are appended
pub returns : goal.returns
returns c =
    reports c.args.domain.now c.args.end.0 c.args.link c.cycle_time.result.0 c.args.arrivals.items c.in_ok-made.made.items c.args.starts.now.items _
    c.cycle_time.ensures.value c.in_ok-made.ensures
    (c.in_ok-report_starts.ensures
    ∙ ap (λ (xs : List Start). c.args.starts.now.items ++ map (reported c.cycle_time.result.0 c.args.link) (filter is_low xs)) c.as_slice.ensures.value)
