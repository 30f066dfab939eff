use Rattle.std.proofs.Common.{◌≡◌, ◌∙◌, ◌++◌, ◌∷◌, [], ℕ, List, None, Option, Some, ap, arith, cond, is_some, length, nat_eq}
use Rattle.std.specs.BTreeMap.{get}
use Rattle.std.specs.Cmp.Lexicographic.{pointwise, slice_cmp}
use Rattle.std.specs.Ordering.{nat_cmp}
use Rattle.std.proofs.lemmas.Map.Text.{is_eq-slice_cmp}
use Rattle.cqf_lists.proofs.Any.{position_any}
use Rattle.cqf_model.specs.Domain.{is_text}
use Rattle.cqf_topology.specs.DomainText.{is_among}
use Rattle.cqf_topology.specs.Names.{Numbered}
use Rattle.cqf_topology.proofs.FirstNamed.{new_name, none_of}
use Rattle.cqf_topology.proofs.names.NameList.add.Goals as goal

pub invariant_of-self-2 : goal.invariant_of-self-2
invariant_of-self-2 c =
    let names : List (List ℕ) = c.self.inside.names.items in
    let name : List ℕ = c.args.name.now in
    let under : List ℕ → Option ℕ = get (slice_cmp nat_cmp) c.self.inside.numbers in
    let free : under name ≡ None =
    none_of (under name) (ap (λ (o : Option ℕ). is_some o) (c.self.invariant name) ∙ position_any (λ other. is_text other name) names
    ∙ ap (λ (n : Numbered). is_among name n.keys) c.self.view_is ∙ c.requires) in
    let more : c.push.new.self.items ≡ names ++ name ∷ [] =
    (rw c.unwrap.ensures at c.push.ensures.items) ∙ ap (λ (ns : List (List ℕ)). ns ++ c.copied-2.result ∷ []) c.reserve.ensures.items
    ∙ ap (λ (n : List ℕ). names ++ n ∷ []) c.copied-2.ensures in
    new_name (λ (n : List ℕ). n) under names c.push.new.self.items name c.self.invariant more (get (slice_cmp nat_cmp) c.insert.new.self) c.len.result free
    (omega (arith, c.len.ensures, ap (λ (ns : List (List ℕ)). length ns) c.reserve.ensures.items))
    (λ other. c.in_ok-insert.ensures.updates.0 other
    ∙ ap (λ same. cond same (Some c.len.result) (under other)) (is_eq-slice_cmp c.copied.result other)
    ∙ ap (λ (n : List ℕ). cond (pointwise nat_eq n other) (Some c.len.result) (under other)) c.copied.ensures)
