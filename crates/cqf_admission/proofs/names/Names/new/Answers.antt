use Rattle.std.proofs.Common.{◌≡◌, ◌∙◌, ◌++◌, ◌∷◌, [], ◌<◌, ◌+◌, ℕ, List, None, Some, ap, cond, nat_eq, sym, take, length, length-take, arith, true, is_some}
use Rattle.std.specs.Cmp.Lexicographic.{pointwise}
use Rattle.std.specs.Prelude.{string_bytes}
use Rattle.std.proofs.lemmas.List.{take_more}
use Rattle.std.proofs.lemmas.Map.Text.{btree_map_updates_str}
use Rattle.cqf_topology.specs.declared.paced.PacedRequest.{PacedRequest}
use Rattle.cqf_topology.proofs.FirstNamed.{known_name, new_name, none_of}
use Rattle.cqf_admission.specs.Names.{index_under}
use Rattle.cqf_admission.proofs.names.Names.new.Goals as goal

pub loop-index-preserved-then-contains_key : goal.loop-index-preserved-then-contains_key
loop-index-preserved-then-contains_key c =
    let requests = c.args.requests.now in
    let k = c.loop-index.index in
    let request = c.index-requests-index.result in
    let inside : k < length requests = omega arith in
    let more : take (k + 1) requests ≡ take k requests ++ request ∷ [] =
    take_more requests k request inside ∙ ap (λ (r : PacedRequest). take k requests ++ r ∷ []) (sym c.index-requests-index.is) in
    let known : is_some (index_under c.loop-index.indices (string_bytes request.name)) ≡ true =
    ap (λ (n : List ℕ). is_some (index_under c.loop-index.indices n)) (sym c.as_str-name.ensures.value) ∙ sym c.contains_key.ensures ∙ c.if-contains_key.true in
    known_name (λ (r : PacedRequest). string_bytes r.name) (index_under c.loop-index.indices) (take k requests) (take (k + 1) requests) request
    c.loop-index.invariant more known

pub loop-index-preserved : goal.loop-index-preserved
loop-index-preserved c =
    let requests = c.args.requests.now in
    let k = c.loop-index.index in
    let request = c.index-requests-index.result in
    let under = index_under c.loop-index.indices in
    let inside : k < length requests = omega arith in
    let more : take (k + 1) requests ≡ take k requests ++ request ∷ [] =
    take_more requests k request inside ∙ ap (λ (r : PacedRequest). take k requests ++ r ∷ []) (sym c.index-requests-index.is) in
    let at : k ≡ length (take k requests) = omega (arith, length-take k requests, inside) in
    let absent : under (string_bytes request.name) ≡ None =
    ap under (sym c.as_str-name.ensures.value) ∙ none_of _ (sym c.contains_key.ensures ∙ c.if-contains_key.false) in
    new_name (λ (r : PacedRequest). string_bytes r.name) under (take k requests) (take (k + 1) requests) request c.loop-index.invariant more
    (index_under c.insert.new.self) k absent at
    (λ name. btree_map_updates_str c.as_str-name.result.now c.loop-index.indices c.insert.new.self (Some k) c.in_ok-insert.ensures.updates name
    ∙ ap (λ (n : List ℕ). cond (pointwise nat_eq n name) (Some k) (under name)) c.as_str-name.ensures.value)
