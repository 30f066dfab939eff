use Rattle.std.proofs.Common.{◌≡◌, ◌≢◌, ◌<◌, ◌∙◌, ℕ, [], List, AllPairs, Contains, map, set, get_or, length, ap, sym, subst, arith}
use Rattle.cqf_admission.specs.Holdings.{AreLetGo, IsHeldAt}
use Rattle.cqf_admission.proofs.Lists.{map_set, mapped_there}
use Rattle.cqf_admission.proofs.slots.Slots.empty.Goals as goal

pub let_go_of-requires-clause-held : goal.let_go_of-requires-clause-held
let_go_of-requires-clause-held c =
    let inside : c.args.slot < length c.self.inside.lists.items = omega (arith, c.requires.low, c.self.invariant) in
    let listed : c.index_mut.result.now.items ≡ get_or c.args.self.now c.args.slot [] =
    sym (mapped_there (λ list. list.items) c.self.inside.lists.items c.args.slot c.index_mut.result.now [] inside c.index_mut.ensures.value)
    ∙ ap (λ (xs : List (List ℕ)). get_or xs c.args.slot []) c.self.view_is in
    subst (λ (xs : List ℕ). (number : ℕ) → Contains xs number → IsHeldAt c.args.holdings.now.rows number) (sym listed) c.requires.held

pub let_go_of-requires-clause-once : goal.let_go_of-requires-clause-once
let_go_of-requires-clause-once c =
    let inside : c.args.slot < length c.self.inside.lists.items = omega (arith, c.requires.low, c.self.invariant) in
    let listed : c.index_mut.result.now.items ≡ get_or c.args.self.now c.args.slot [] =
    sym (mapped_there (λ list. list.items) c.self.inside.lists.items c.args.slot c.index_mut.result.now [] inside c.index_mut.ensures.value)
    ∙ ap (λ (xs : List (List ℕ)). get_or xs c.args.slot []) c.self.view_is in
    subst (AllPairs (λ (a b : ℕ). a ≢ b)) (sym listed) c.requires.once

pub returns-clause-rows : goal.returns-clause-rows
returns-clause-rows c =
    let inside : c.args.slot < length c.self.inside.lists.items = omega (arith, c.requires.low, c.self.invariant) in
    let listed : c.index_mut.result.now.items ≡ get_or c.args.self.now c.args.slot [] =
    sym (mapped_there (λ list. list.items) c.self.inside.lists.items c.args.slot c.index_mut.result.now [] inside c.index_mut.ensures.value)
    ∙ ap (λ (xs : List (List ℕ)). get_or xs c.args.slot []) c.self.view_is in
    subst (λ (xs : List ℕ). AreLetGo xs c.args.holdings.now.rows c.let_go_of.new.holdings.rows) listed c.let_go_of.ensures.rows

pub returns-clause-slots : goal.returns-clause-slots
returns-clause-slots c =
    map_set (λ list. list.items) c.self.inside.lists.items c.args.slot c.let_go_of.new.slot
    ∙ ap (set (map (λ list. list.items) c.self.inside.lists.items) c.args.slot) c.let_go_of.ensures.empty
    ∙ ap (λ (xs : List (List ℕ)). set xs c.args.slot []) c.self.view_is
