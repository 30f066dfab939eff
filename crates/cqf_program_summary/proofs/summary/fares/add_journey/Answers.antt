use Rattle.std.proofs.Common.{◌∙◌, ap, get_or, sym}
use Rattle.std.proofs.lemmas.Option.{slice_get-get_or, slice_get_within}
use Rattle.cqf_program_summary.specs.declared.summary.tallies.Tally.{Tally}
use Rattle.cqf_program_summary.proofs.Placed.{found_leads, none_counted, path_counted}
use Rattle.cqf_program_summary.proofs.summary.fares.add_journey.Goals as goal

pub returns-in-Some-clause-paths : goal.returns-in-Some-clause-paths
returns-in-Some-clause-paths c =
    let paths = c.args.paths.now in
    let index = c.in-Some.index in
    let journey = c.args.journey.now in
    let found = sym c.index_to.ensures ∙ c.in-Some.is in
    let leads = found_leads paths c.args.expected journey.listener index found in
    let inside = slice_get_within paths index leads.0 leads.1 in
    let before = get_or paths index c.index-paths-index.result in
    path_counted paths c.args.expected c.args.ending c.args.at.0 journey index before _ c.requires.apart found
    (slice_get-get_or paths index c.index-paths-index.result inside) (ap (λ (t : Tally). record { to = before.to; tally = t }) c.with-path.ensures.tally)

pub returns-in_default-clause-paths : goal.returns-in_default-clause-paths
returns-in_default-clause-paths c =
    none_counted c.args.paths.now c.args.expected c.args.ending c.args.at.0 c.args.journey.now (sym c.index_to.ensures ∙ c.in_default.is)
