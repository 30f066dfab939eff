use Rattle.cqf_report.specs.Arrivals.{arrival_instant, arrival_of}
use Rattle.cqf_report.specs.BackgroundFrames.{background_instant, background_of_table}
use Rattle.cqf_report.specs.Offers.{offer_instant, offer_of}
use Rattle.cqf_model.specs.Limits.{profile, rows_within}
use Rattle.cqf_report.specs.Table.{in_five, in_four}
use Rattle.cqf_report.proofs.FirstRows.{reports-first}
use Rattle.cqf_report.proofs.laws.first_fault_is_written.Goals as goal

pub returns-clause-arrivals : goal.returns-clause-arrivals
returns-clause-arrivals c rows = reports-first (rows_within profile) (in_four arrival_of) arrival_instant rows

pub returns-clause-offers : goal.returns-clause-offers
returns-clause-offers c d rows = reports-first (rows_within d.limits) (in_four (offer_of d)) offer_instant rows

pub returns-clause-background : goal.returns-clause-background
returns-clause-background c d rows = reports-first (rows_within d.limits) (in_five (background_of_table d)) background_instant rows
