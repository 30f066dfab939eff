-- What may arrive at a bridge: the batches of the links that end in it.
use Rattle.std.proofs.Common.{◌≡◌, ◌+◌, ◌≤◌, ◌<◌, ℕ, true, List, ◌∙◌, inl, inr, sym, ap, arith, length, map, get_or, Contains, Some, subst}
use Rattle.std.specs.Prelude.{slice_get}
use Rattle.std.proofs.lemmas.Bool.{cases_lt}
use Rattle.std.proofs.lemmas.Option.{get_or_from_slice_get, slice_get_within}
use Rattle.cqf_lists.proofs.Members.{contains_map, index_of_member}
use Rattle.cqf_lists.proofs.Numbers.{kept_number}
use Rattle.cqf_model.specs.declared.topology.Row.{Row}
use Rattle.cqf_model.specs.Domain.{Domain, enters}
use Rattle.cqf_bridge.specs.Batch.{LinkBatch}
use Rattle.cqf_agenda.specs.Links.{links_into}
use Rattle.cqf_bridge.specs.Receiving.{AreBatchesOf}
use Rattle.cqf_bridge.specs.Taking.{IsBatchOf}

-- the links of batches, one for each that ends in a bridge, end in it
pub batch_enters : (d : Domain) (bridge : ℕ) (batches : List LinkBatch) (b : LinkBatch) → map (λ (x : LinkBatch). x.link) batches ≡ links_into d bridge →
    Contains batches b → enters d b.link bridge ≡ true
batch_enters d bridge batches b are held =
    let among : Contains (links_into d bridge) b.link = subst (λ (ls : List ℕ). Contains ls b.link) are
    (contains_map (λ (x : LinkBatch). x.link) batches b held) in
    (kept_number (λ l. enters d l bridge) (length d.links) b.link among).1

-- what holds of the first elements, and of one more
pub one_more_index : {X : Type 0} (P : X → Type 0) (xs : List X) (n : ℕ) (x : X) → x ≡ get_or xs n x → P x →
    ((k : ℕ) (y : X) → k < n → slice_get xs k ≡ Some y → P y) → (k : ℕ) (y : X) → k < n + 1 → slice_get xs k ≡ Some y → P y
one_more_index {X} P xs n x is here before k y less at = elim (cases_lt k n) [
  | inl sooner ↦ before k y sooner at
  | inr from ↦
      let same : k ≡ n = omega (arith, less, from) in
      subst P (is ∙ ap (λ (j : ℕ). get_or xs j x) (sym same) ∙ get_or_from_slice_get xs k y x at) here
]

module _ (d : Domain) (bridge cycle : ℕ) (rows : List Row) (batches : List LinkBatch) where
  -- batches that are all of the cycle are those of the bridge
  pub are_batches_of : map (λ (x : LinkBatch). x.link) batches ≡ links_into d bridge → (count : ℕ) → length batches ≤ count →
      ((k : ℕ) (b : LinkBatch) → k < count → slice_get batches k ≡ Some b → IsBatchOf d bridge cycle rows b) → AreBatchesOf d bridge cycle rows batches
  are_batches_of are count past each = record {
    one_each = are;
    of_cycle = λ b held. (of_member b held).of_cycle;
    frames = λ b sent held. (of_member b held).frames sent;
  }
    where
      of_member : (b : LinkBatch) → Contains batches b → IsBatchOf d bridge cycle rows b
      of_member b held =
          let p = index_of_member batches b held in
          each p.0 b (omega (arith, past, slice_get_within batches p.0 b p.1)) p.1

  -- a batch that isn't of the cycle isn't one of them
  pub not_batches_of : (b : LinkBatch) → Contains batches b → ¬ IsBatchOf d bridge cycle rows b → ¬ AreBatchesOf d bridge cycle rows batches
  not_batches_of b held not are = not (record { of_cycle = are.of_cycle b held; frames = λ sent inside. are.frames b sent held inside })
