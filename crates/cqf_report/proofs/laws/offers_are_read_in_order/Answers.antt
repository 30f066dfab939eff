use Rattle.cqf_model.specs.Limits.{rows_within}
use Rattle.cqf_report.specs.Offers.{offer_header, offer_instant, offer_of}
use Rattle.cqf_report.specs.Records.{records_of}
use Rattle.cqf_report.specs.Table.{in_four}
use Rattle.cqf_report.proofs.ReadTables.{rows_under-in_order}
use Rattle.cqf_report.proofs.laws.offers_are_read_in_order.Goals as goal

pub returns : goal.returns
returns c d text offers e = rows_under-in_order (rows_within d.limits) offer_header (in_four (offer_of d)) offer_instant (records_of text) offers e
