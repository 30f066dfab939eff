use Rattle.std.proofs.Common.{rules, ◌≡◌, ◌<◌, ◌∙◌, get_or, length, nat_eq, sym, ap, ℕ}
use Rattle.cqf_world.proofs.Posting.{may_not_post, may_post_so}
use Rattle.cqf_world.proofs.world.World.may_post.Goals as goal

pub returns-clause-yes : goal.returns-clause-yes
returns-clause-yes c = λ all.
    let there : c.from.result < length c.self.inside.driven.items = search rules in
    let is : c.in-Some.bridge_driven.now ≡ get_or c.self.inside.driven.items c.from.result c.in-Some.bridge_driven.now = search rules in
    may_post_so _ c.self.inside.tables.items c.self.inside.driven.items c.self.inside.lines.items _ c.self.view_is c.self.invariant c.requires c.args.bridge
    c.from.result c.in-Some.bridge_driven.now c.from.ensures is there c.if-bridge_driven.false
    (ap (λ (n : ℕ). nat_eq n c.in-Some.bridge_driven.now.incoming) (sym (ap length c.as_slice.ensures.value)) ∙ all)

pub returns-clause-no : goal.returns-clause-no
returns-clause-no c = λ none may.
    let there : c.from.result < length c.self.inside.driven.items = search rules in
    let is : c.in-Some.bridge_driven.now ≡ get_or c.self.inside.driven.items c.from.result c.in-Some.bridge_driven.now = search rules in
    may_not_post _ c.self.inside.tables.items c.self.inside.driven.items c.self.inside.lines.items _ c.self.view_is c.self.invariant c.requires c.args.bridge
    c.from.result c.in-Some.bridge_driven.now c.from.ensures is there
    (ap (λ (n : ℕ). nat_eq n c.in-Some.bridge_driven.now.incoming) (sym (ap length c.as_slice.ensures.value)) ∙ none) may
