use Rattle.std.proofs.Common.{◌≡◌, ℕ, arith, length, subst}
use Rattle.cqf_network.specs.Ends.{AreMarked, is_in, open_to}
use Rattle.cqf_network.specs.Paths.{has_room}
use Rattle.cqf_network.proofs.MarkLemmas.{all_marked, no_marks, none_marked, one_marked}
use Rattle.cqf_network.proofs.path_ends.Ends.before.Goals as goal

pub loop-link-init : goal.loop-link-init
loop-link-init c =
    none_marked (open_to c.args.room.links.now (has_room c.args.room.left.now c.args.room.cost)) (is_in c.args.self.now) _ (no_marks 1024)

pub loop-link-preserved : goal.loop-link-preserved
loop-link-preserved c = one_marked _ _ c.loop-link.link _ _ c.loop-link.invariant c.mark.ensures

pub returns : goal.returns
returns c =
    let links = c.args.room.links.now in
    let last : c.loop-link.link ≡ length links = omega arith in
    all_marked links (has_room c.args.room.left.now c.args.room.cost) (is_in c.args.self.now) c.loop-link.marks
    (subst (λ (k : ℕ). AreMarked (open_to links (has_room c.args.room.left.now c.args.room.cost)) (is_in c.args.self.now) k c.loop-link.marks) last
    c.loop-link.invariant)
