use Rattle.std.proofs.Common.{◌≡◌, ◌∙◌, ◌+◌, ◌++◌, ◌∷◌, List, [], ap, refl, rules, subst, sym, take}
use Rattle.std.proofs.lemmas.List.{take_all, take_more}
use Rattle.std.proofs.lemmas.List.Sorted.{IsNonDecreasingBy-from_sort_by_key}
use Rattle.std.specs.List.Sorted.{IsNonDecreasingBy}
use Rattle.cqf_model.specs.declared.frames.Dropped.{Dropped}
use Rattle.cqf_model.specs.declared.frames.Offered.{Offered}
use Rattle.cqf_relay.specs.declared.edge.Edge.{Edge}
use Rattle.cqf_relay.proofs.Offers.{HasJudged, all_judged, none_judged, one_more_judged}
use Rattle.cqf_relay.proofs.edge.Edge.take.Goals as goal

pub loop-offered-init : goal.loop-offered-init
loop-offered-init c =
    let before = c.args.self.now in
    let now : Edge = record before { fresh = c.clear.new.self } in
    none_judged c.args.domain.now c.args.cycle.0 c.args.table.now.rows before now (record { number = refl; drops = refl }) refl refl c.clear.ensures.items

pub loop-offered-preserved : goal.loop-offered-preserved
loop-offered-preserved c =
    let d = c.args.domain.now in
    let table = c.args.table.now.rows in
    let offers = c.args.offers.now in
    let k = c.loop-offered.offered-index in
    let x = c.offered-item.result in
    let more : take (k + 1) offers ≡ take k offers ++ x ∷ [] =
    take_more offers k x c.loop-offered-test.true ∙ ap (λ (y : Offered). take k offers ++ y ∷ []) (sym c.offered-item.is) in
    subst (λ (xs : List Offered). HasJudged d c.args.cycle.0 table xs c.args.self.now c.judge.new.self) (sym more)
    (one_more_judged d c.args.cycle.0 table (take k offers) x c.args.self.now c.loop-offered.self c.judge.new.self c.loop-offered.invariant
    c.in_ok-judge.ensures)

pub returns : goal.returns
returns c =
    let d = c.args.domain.now in
    let table = c.args.table.now.rows in
    let offers = c.args.offers.now in
    let k = c.loop-offered.offered-index in
    let now = c.loop-offered.self in
    let fresh = c.sort_unstable_by_key.new.self.items in
    let has : HasJudged d c.args.cycle.0 table offers c.args.self.now now =
    subst (λ (xs : List Offered). HasJudged d c.args.cycle.0 table xs c.args.self.now now) (take_all k offers c.loop-offered-test.false)
    c.loop-offered.invariant in
    let by_frame : IsNonDecreasingBy (λ (dropped : Dropped). dropped.frame) fresh =
    IsNonDecreasingBy-from_sort_by_key (λ (dropped : Dropped). dropped.frame) _ c.sort_unstable_by_key.ensures.sorted (λ a r q k. search rules) in
    all_judged d c.args.cycle.0 table offers c.args.self.now now _ fresh has refl refl refl
    (c.in_ok-extend_from_slice.ensures.items ∙ ap (λ (ds : List Dropped). now.drops.items ++ ds) c.as_slice.ensures.value)
    c.sort_unstable_by_key.ensures.permutation by_frame
