use Rattle.cqf_program_laws.proofs.Outputs.{written_latencies_are_bounded, written_offers_count_once, written_rows_add_up}
use Rattle.cqf_program_laws.proofs.summaries_are_as_written.Goals as goal

pub returns-clause-rows : goal.returns-clause-rows
returns-clause-rows c =
    let r = c.readers_agree.ensures in
    written_rows_add_up r.inputs r.may_run c.summaries_add_up.ensures

pub returns-clause-once : goal.returns-clause-once
returns-clause-once c =
    let r = c.readers_agree.ensures in
    written_offers_count_once r.inputs r.may_run c.each_offer_counts_once.ensures.once

pub returns-clause-bounds : goal.returns-clause-bounds
returns-clause-bounds c =
    let r = c.readers_agree.ensures in
    written_latencies_are_bounded r.inputs r.may_run c.summaries_are_within_bounds.ensures
