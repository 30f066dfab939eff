use Rattle.std.proofs.Common.{◌≡◌, ◌∙◌, ◌++◌, ◌∷◌, [], ◌<◌, ◌+◌, ℕ, List, None, Some, ap, arith, cond, is_some, length, length-take, nat_eq, refl, sym, take, true, false}
use Rattle.std.specs.BTreeMap.{is_at}
use Rattle.std.specs.Cmp.Lexicographic.{pointwise, slice_cmp}
use Rattle.std.specs.Map.{lookup}
use Rattle.std.specs.Ordering.{nat_cmp}
use Rattle.std.specs.Global.{Global}
use Rattle.std.specs.declared.vec.Vec.{Vec}
use Rattle.std.proofs.lemmas.List.{take_more}
use Rattle.std.proofs.lemmas.Map.Text.{btree_map_updates_str}
use Rattle.cqf_admission.specs.Names.{index_under}
use Rattle.cqf_topology.proofs.FirstNamed.{known_name, new_name, none_of}
use Rattle.cqf_program_tc.proofs.Naming.{known_is_taken, taken_all, taken_more, taken_none}
use Rattle.cqf_program_tc.proofs.variables.are_taken.Goals as goal

pub loop-index-preserved-then-contains_key : goal.loop-index-preserved-then-contains_key
loop-index-preserved-then-contains_key c =
    let words = c.args.words.now in
    let k = c.loop-index.index in
    let word = c.index-words-index.result in
    let under = index_under c.loop-index.indices in
    let inside : k < length words = omega arith in
    let more : take (k + 1) words ≡ take k words ++ word ∷ [] =
    take_more words k word inside ∙ ap (λ (w : Vec ℕ Global). take k words ++ w ∷ []) (sym c.index-words-index.is) in
    let said : c.as_slice-word.result.now ≡ word.items = cc (c.as_slice-word.ensures.value, c.index-words-index.is) in
    let known : is_some (under word.items) ≡ true =
    ap (λ (n : List ℕ). is_some (under n)) (sym said) ∙ sym c.contains_key.ensures ∙ c.if-contains_key.true in
    taken_more words under under c.loop-index.taken.items c.push.new.self.items k true c.loop-index.invariant
    (known_name (λ (w : Vec ℕ Global). w.items) under (take k words) (take (k + 1) words) word c.loop-index.invariant.leads more known)
    c.in_ok-push.ensures.items (sym known ∙ known_is_taken words under k word inside c.index-words-index.is c.loop-index.invariant.leads)

pub loop-index-preserved : goal.loop-index-preserved
loop-index-preserved c =
    let words = c.args.words.now in
    let k = c.loop-index.index in
    let word = c.index-words-index.result in
    let under = index_under c.loop-index.indices in
    let inside : k < length words = omega arith in
    let more : take (k + 1) words ≡ take k words ++ word ∷ [] =
    take_more words k word inside ∙ ap (λ (w : Vec ℕ Global). take k words ++ w ∷ []) (sym c.index-words-index.is) in
    let at : k ≡ length (take k words) = omega (arith, length-take k words, inside) in
    let said : c.as_slice-word.result.now ≡ word.items = cc (c.as_slice-word.ensures.value, c.index-words-index.is) in
    let unknown : is_some (under word.items) ≡ false =
    ap (λ (n : List ℕ). is_some (under n)) (sym said) ∙ sym c.contains_key.ensures ∙ c.if-contains_key.false in
    let absent : under word.items ≡ None = none_of (under word.items) unknown in
    taken_more words under (index_under c.insert.new.self) c.loop-index.taken.items c.push-in-loop-index.new.self.items k false c.loop-index.invariant
    (new_name (λ (w : Vec ℕ Global). w.items) under (take k words) (take (k + 1) words) word c.loop-index.invariant.leads more
    (index_under c.insert.new.self) k absent at
    (λ name. btree_map_updates_str c.as_slice-word.result.now c.loop-index.indices c.insert.new.self (Some k) c.in_ok-insert.ensures.updates name
    ∙ ap (λ (n : List ℕ). cond (pointwise nat_eq n name) (Some k) (under name)) said))
    c.in_ok-push-2.ensures.items (sym unknown ∙ known_is_taken words under k word inside c.index-words-index.is c.loop-index.invariant.leads)

pub returns : goal.returns
returns c =
    let words = c.args.words.now in
    let all : c.loop-index.index ≡ length words = omega arith in
    taken_all words (index_under c.loop-index.indices) c.loop-index.taken.items c.loop-index.index all c.loop-index.invariant

pub loop-index-init : goal.loop-index-init
loop-index-init c = taken_none c.args.words.now (index_under c.new-indices.result) c.new-taken.result.items (λ name. ap (lookup (is_at (λ key. slice_cmp nat_cmp name key.now))) c.new-indices.ensures.empty)
    c.new-taken.ensures.items
