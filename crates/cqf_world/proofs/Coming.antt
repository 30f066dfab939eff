-- Batches are put on their links, one by one.
use Rattle.std.proofs.Common.{◌≡◌, ℕ, ◌<◌, ◌++◌, List, get_or, length, set, sym, ap, ◌∙◌, refl, inl, inr, true, false, append-nil, append_assoc, eq-eqb, ne_eqb}
use Rattle.std.specs.Prelude.{◌∷◌, [], ◌==◌, filter}
use Rattle.std.proofs.lemmas.Bool.{cases_eq, cond-false, cond-true}
use Rattle.std.proofs.lemmas.List.{get_or-set_other, get_or-set_same, get_or_default, length-set}
use Rattle.std.proofs.lemmas.List.Elements.{filter-append}
use Rattle.cqf_model.specs.Domain.{Domain, enters}
use Rattle.cqf_bridge.specs.Batch.{LinkBatch}
use Rattle.cqf_world.specs.declared.parts.Line.{Line}
use Rattle.cqf_world.specs.Parts.{AreComing, taken_of}
use Rattle.cqf_world.proofs.Standing.{count_kept}

-- before the first batch
pub none_coming : (d : Domain) (lines : List Line) → AreComing d [] lines lines
none_coming d lines = record {
  as_many = refl;
  counts = refl;
  following = λ link bridge x ends. sym (append-nil (get_or lines link x).waiting.items);
}

-- a batch of a link that ends in no bridge
pub passed_by : (d : Domain) (batches : List LinkBatch) (before after : List Line) (batch : LinkBatch) → ((bridge : ℕ) → enters d batch.link bridge ≡ false) →
    AreComing d batches before after → AreComing d (batches ++ batch ∷ []) before after
passed_by d batches before after batch none so = record {
  as_many = so.as_many;
  counts = so.counts;
  following = λ link bridge x ends.
      (let other : (batch.link == link) ≡ false = ne_eqb batch.link link (λ e. false_true (sym (none bridge) ∙ ap (λ (k : ℕ). enters d k bridge) e ∙ ends)) in
      so.following link bridge x ends
      ∙ ap (λ (ys : List LinkBatch). (get_or before link x).waiting.items ++ ys)
      (sym (filter-append (λ (b : LinkBatch). b.link == link) batches (batch ∷ [])
      ∙ ap (λ (ys : List LinkBatch). filter (λ (b : LinkBatch). b.link == link) batches ++ ys) (cond-false (batch.link == link) (batch ∷ []) [] other)
      ∙ append-nil (filter (λ (b : LinkBatch). b.link == link) batches))));
}
  where
    -- two answers that differ
    false_true : false ≡ true → ⊥
    false_true e = absurd cc

-- a batch of a link that ends in a bridge
pub one_coming : (d : Domain) (batches : List LinkBatch) (before after : List Line) (batch : LinkBatch) (x y : Line) (index : ℕ) → index ≡ batch.link →
    index < length after → x ≡ get_or after index x → y.taken ≡ x.taken → y.waiting.items ≡ x.waiting.items ++ batch ∷ [] →
    AreComing d batches before after → AreComing d (batches ++ batch ∷ []) before (set after index y)
one_coming d batches before after batch x y index at inside there counted pushed so = record {
  as_many = length-set after index y ∙ so.as_many;
  counts = count_kept taken_of after index x y there counted ∙ so.counts;
  following = λ link bridge z ends. elim (cases_eq link index) [
    | inl e ↦
        let own : (batch.link == link) ≡ true = eq-eqb batch.link link (sym at ∙ sym e) in
        let same_default : get_or after index x ≡ get_or after index z = get_or_default after index x z inside in
        ap (λ (k : ℕ). (get_or (set after index y) k z).waiting.items) e
        ∙ ap (λ (w : Line). w.waiting.items) (get_or-set_same after index y z inside)
        ∙ pushed
        ∙ ap (λ (w : Line). w.waiting.items ++ batch ∷ []) (there ∙ same_default ∙ ap (λ (k : ℕ). get_or after k z) (sym e))
        ∙ ap (λ (ys : List LinkBatch). ys ++ batch ∷ []) (so.following link bridge z ends)
        ∙ append_assoc (get_or before link z).waiting.items (filter (λ (b : LinkBatch). b.link == link) batches) (batch ∷ [])
        ∙ ap (λ (ys : List LinkBatch). (get_or before link z).waiting.items ++ ys)
        (sym (filter-append (λ (b : LinkBatch). b.link == link) batches (batch ∷ [])
        ∙ ap (λ (ys : List LinkBatch). filter (λ (b : LinkBatch). b.link == link) batches ++ ys) (cond-true (batch.link == link) (batch ∷ []) [] own)))
    | inr differ ↦
        let other : (batch.link == link) ≡ false = ne_eqb batch.link link (λ is. differ (sym is ∙ sym at)) in
        ap (λ (w : Line). w.waiting.items) (get_or-set_other after index link y z differ)
        ∙ so.following link bridge z ends
        ∙ ap (λ (ys : List LinkBatch). (get_or before link z).waiting.items ++ ys)
        (sym (filter-append (λ (b : LinkBatch). b.link == link) batches (batch ∷ [])
        ∙ ap (λ (ys : List LinkBatch). filter (λ (b : LinkBatch). b.link == link) batches ++ ys) (cond-false (batch.link == link) (batch ∷ []) [] other)
        ∙ append-nil (filter (λ (b : LinkBatch). b.link == link) batches)))
  ];
}
