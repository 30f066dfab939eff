-- Lists that are the same up to an index, and elements of equal lists.
use Rattle.std.proofs.Common.{◌≡◌, ℕ, ◌+◌, List, Some, take, ap, sym, ◌∙◌}
use Rattle.std.specs.Prelude.{slice_get}
use Rattle.std.proofs.lemmas.List.{take_more_same}
use Rattle.std.proofs.lemmas.Option.{get_or_from_slice_get, same_Some, slice_get_within}

-- lists that agree up to an index, and at it, agree up to the next index
pub one_more_same : {X : Type 0} (xs ys : List X) (k : ℕ) (x y : X) → take k xs ≡ take k ys → slice_get xs k ≡ Some x → slice_get ys k ≡ Some y → x ≡ y →
    take (k + 1) xs ≡ take (k + 1) ys
one_more_same xs ys k x y so_far there also same =
    take_more_same xs ys k x (slice_get_within xs k x there) (slice_get_within ys k y also) so_far
    (get_or_from_slice_get xs k x x there ∙ same ∙ sym (get_or_from_slice_get ys k y x also))

-- elements at the same index of equal lists are equal
pub alike_in : {X : Type 0} (xs ys : List X) (k : ℕ) (x y : X) → slice_get xs k ≡ Some x → slice_get ys k ≡ Some y → xs ≡ ys → x ≡ y
alike_in {X} xs ys k x y there also same = same_Some x y (sym there ∙ ap (λ (zs : List X). slice_get zs k) same ∙ also)
