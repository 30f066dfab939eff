use Rattle.std.proofs.Common.{◌≡◌, ◌∙◌, ◌<◌, ℕ, arith, ap, get_or, length, refl, sym}
use Rattle.cqf_model.specs.History.{held_in, seals}
use Rattle.cqf_program_placing.specs.ActiveCycles.{hop_at, left_emptiest}
use Rattle.cqf_program_placing.proofs.Known.{none_renewed, renewed_more}
use Rattle.cqf_program_placing.proofs.rooms.renew_lefts.Goals as goal

pub loop-hop-init : goal.loop-hop-init
loop-hop-init c =
    let d = c.args.domain.now in
    let rows = held_in d c.args.admission.now.entries (seals c.args.admission.now.entries) in
    let now : ℕ → ℕ = left_emptiest d rows c.args.emptiest.now.every in
    record { every = refl; left = none_renewed now c.args.emptiest.now.left.items }

-- the link of one more hop
pub loop-hop-preserved : goal.loop-hop-preserved
loop-hop-preserved c =
    let d = c.args.domain.now in
    let rows = held_in d c.args.admission.now.entries (seals c.args.admission.now.entries) in
    let before = c.args.emptiest.now in
    let now : ℕ → ℕ = left_emptiest d rows before.every in
    let tree = c.args.tree.now in
    let i = c.loop-hop.hop-index in
    let link = c.from.result in
    let at : link ≡ (get_or tree i (hop_at 0)).link = c.from.ensures in
    let low : (get_or tree i (hop_at 0)).link < length d.links = c.requires.inside i (hop_at 0) c.loop-hop-test.true in
    let there : link < length before.left.items = omega (arith, at, low, c.requires.filled.each) in
    let left : c.left_on-left.result ≡ left_emptiest d rows c.loop-hop.emptiest.every (get_or tree i (hop_at 0)).link = c.left_on-left.ensures in
    let is : c.left_on-left.result ≡ now link =
    left ∙ (λ j. left_emptiest d rows (c.loop-hop.invariant.every j) (get_or tree i (hop_at 0)).link) ∙ ap now (sym at) in
    record {
      every = c.loop-hop.invariant.every;
      left = renewed_more now tree i link c.left_on-left.result before.left.items c.loop-hop.emptiest.left.items c.loop-hop-test.true at
          c.loop-hop.invariant.left there is;
    }
