use Rattle.std.proofs.Common.{◌≡◌, ◌∙◌, ◌+◌, ◌<◌, ◌++◌, ℕ, List, [], ◌∷◌, length, get_or, take, ap, sym, arith}
use Rattle.std.proofs.lemmas.List.{take_more}
use Rattle.toml.specs.Data.{push_item}
use Rattle.toml.specs.declared.value.Value.{Value}
use Rattle.toml.specs.View.{items_view, view}
use Rattle.toml.proofs.Views.{items_view-push}
use Rattle.cqf_network_text.proofs.same.+same.Goals as goal

-- one more of some values
one_more : (vs : List Value) (i : ℕ) (v : Value) → i < length vs → v ≡ get_or vs i v → items_view (take (i + 1) vs) ≡ push_item (items_view (take i vs)) (view v)
one_more vs i v inside at =
    ap items_view (take_more vs i v inside ∙ ap (λ x. take i vs ++ x ∷ []) (sym at)) ∙ items_view-push (take i vs) v

pub are_same-loop-index-preserved : goal.are_same-loop-index-preserved
are_same-loop-index-preserved t c =
    let i = c.loop-index.index in
    let at : c.index-rest-index.result ≡ get_or c.args.others.now.items i c.index-rest-index.result =
    c.index-rest-index.is ∙ ap (λ vs. get_or vs i c.index-rest-index.result) c.as_slice-rest.ensures.value in
    let inside : i < length c.args.items.now.items = omega arith in
    let inside_other : i < length c.args.others.now.items = omega arith in
    one_more c.args.items.now.items i c.index.result.now inside c.index.ensures
    ∙ (λ j. push_item (c.loop-index.invariant j) (c.is_same.ensures c.if-not-is_same.false j))
    ∙ sym (one_more c.args.others.now.items i c.index-rest-index.result inside_other at)
