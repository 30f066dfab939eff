use Rattle.std.proofs.Common.{◌∙◌, ap, length}
use Rattle.cqf_admission.specs.ActiveCycles.{sums_at}
use Rattle.cqf_admission.proofs.ActiveCycleLemmas.{most_in_active_cycles, most_of_each, most_of_sums}
use Rattle.cqf_admission.proofs.cycle_sums.CycleSums.most_at.Goals as goal

pub returns-then-pace-eq0 : goal.returns-then-pace-eq0
returns-then-pace-eq0 c =
    let by_cycle = c.args.self.now in
    let l = c.args.hop.now.link in
    c.most_of.ensures
    ∙ most_of_each by_cycle l c.args.pace c.args.hop.now.hop_number c.if-pace-eq0.true

pub most_of_some-requires-clause-of_link : goal.most_of_some-requires-clause-of_link
most_of_some-requires-clause-of_link c = ap length c.sums_of.ensures.value ∙ c.sums_of.ensures.long

pub returns : goal.returns
returns c =
    let by_cycle = c.args.self.now in
    let hop = c.args.hop.now in
    c.most_of_some.ensures
    ∙ most_in_active_cycles c.args.pace hop.hop_number c.from.result c.from-2.result c.from-every.result c.sums_of.result.now (sums_at by_cycle hop.link) c.from.ensures
    c.from-2.ensures c.from-every.ensures c.sums_of.ensures.value
    ∙ most_of_sums by_cycle hop.link c.args.pace hop.hop_number
