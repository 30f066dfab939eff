use Rattle.std.proofs.Common.{◌∙◌, ap, map}
use Rattle.cqf_network.specs.NetworkDomain.{domain_at}
use Rattle.cqf_network.specs.StreamsText.{stream_text}
use Rattle.cqf_program_placing.proofs.SettledLemmas.{given_are_few, given_are_placeable}
use Rattle.cqf_program_placing.proofs.settling.settle.Goals as goal

pub returns-clause-on_path : goal.returns-clause-on_path
returns-clause-on_path c =
    let network = c.args.network.now in
    given_are_placeable network c.in_ok-plan.plan (map stream_text c.args.streams.items) c.settle_all.result c.know.ensures.there
    (c.in_ok-plan.ensures ∙ ap (domain_at network) c.open_cycle.ensures.first) c.settle_all.ensures

pub returns-clause-few : goal.returns-clause-few
returns-clause-few c =
    given_are_few c.args.network.now c.in_ok-plan.plan (map stream_text c.args.streams.items) c.settle_all.result c.settle_all.ensures
