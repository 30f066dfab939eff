use Rattle.std.proofs.Common.{◌≡◌, ◌<◌, ◌∙◌, ◌++◌, ◌∷◌, ℕ, [], List, map, set, get_or, length, ap, sym, arith}
use Rattle.std.proofs.lemmas.Result.{err_from_is_err_and}
use Rattle.cqf_admission.proofs.Lists.{map_set, mapped_there, set_own}
use Rattle.cqf_admission.proofs.slots.Slots.put.Goals as goal

pub returns-clause-more : goal.returns-clause-more
returns-clause-more c =
    let inside : c.args.slot < length c.self.inside.lists.items = omega (arith, c.requires, c.self.invariant) in
    let listed : c.index_mut.result.now.items ≡ get_or c.args.self.now c.args.slot [] =
    sym (mapped_there (λ list. list.items) c.self.inside.lists.items c.args.slot c.index_mut.result.now [] inside c.index_mut.ensures.value)
    ∙ ap (λ (xs : List (List ℕ)). get_or xs c.args.slot []) c.self.view_is in
    map_set (λ list. list.items) c.self.inside.lists.items c.args.slot c.push.new.self
    ∙ ap (set (map (λ list. list.items) c.self.inside.lists.items) c.args.slot) c.in_ok-push.ensures.items
    ∙ ap (λ (xs : List (List ℕ)). set xs c.args.slot (c.index_mut.result.now.items ++ c.args.number ∷ [])) c.self.view_is
    ∙ ap (λ (xs : List ℕ). set c.args.self.now c.args.slot (xs ++ c.args.number ∷ [])) listed

pub returns-in_err-push-clause-same : goal.returns-in_err-push-clause-same
returns-in_err-push-clause-same c =
    let inside : c.args.slot < length c.self.inside.lists.items = omega (arith, c.requires, c.self.invariant) in
    let listed = mapped_there (λ list. list.items) c.self.inside.lists.items c.args.slot c.index_mut.result.now c.index_mut.result.now.items inside
    c.index_mut.ensures.value in
    let p = err_from_is_err_and c.from_residual.result c.from_residual.ensures.1 in
    rw p.1 (map_set (λ list. list.items) c.self.inside.lists.items c.args.slot c.push.new.self
    ∙ ap (set (map (λ list. list.items) c.self.inside.lists.items) c.args.slot) c.in_err-push.ensures.items
    ∙ set_own (map (λ list. list.items) c.self.inside.lists.items) c.args.slot c.index_mut.result.now.items (sym listed)
    ∙ c.self.view_is)
