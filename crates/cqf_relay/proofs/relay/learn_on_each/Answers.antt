use Rattle.std.proofs.Common.{arith, get_or, length, ◌<◌}
use Rattle.std.proofs.lemmas.Option.{slice_get-get_or}
use Rattle.cqf_relay.proofs.LearnedRows.{all_learned, none_learned, one_learned}
use Rattle.cqf_relay.proofs.relay.learn_on_each.Goals as goal

pub loop-index-init : goal.loop-index-init
loop-index-init c = none_learned c.args.row.now c.args.outlets.now

pub loop-index-preserved : goal.loop-index-preserved
loop-index-preserved c =
    let now = c.loop-index.outlets in
    let index = c.loop-index.index in
    let within : index < length now = omega arith in
    let outlet = get_or now index c.index-outlets-index.result in
    one_learned c.args.row.now index c.args.outlets.now now outlet c.learn.new.self within (slice_get-get_or now index c.index-outlets-index.result within)
    c.in_ok-learn.ensures c.loop-index.invariant

pub returns : goal.returns
returns c =
    all_learned c.args.row.now c.loop-index.index c.args.outlets.now c.loop-index.outlets (omega arith) c.loop-index.invariant
