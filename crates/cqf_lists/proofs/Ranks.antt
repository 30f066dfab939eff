-- The indices that elements of a list have among those that a filter keeps.
use Rattle.std.proofs.Common.{◌≡◌, ℕ, zero, suc, ◌<◌, ◌∷◌, [], List, Bool, true, false, cond, length, get_or, take, map, filter, ap, ◌∙◌, arith, refl}
use Rattle.std.proofs.lemmas.Bool.{false≢true}
use Rattle.std.proofs.lemmas.List.{length-map, take-map}
use Rattle.cqf_lists.proofs.Filters.{filter-map}

-- the index of an element among the kept ones: the number of kept elements before it
abbrev pub rank : {X : Type 0} → (X → Bool) → List X → ℕ → ℕ
rank keeps xs index = length (filter keeps (take index xs))

-- the element is at its rank among the kept ones
pub record StandsAtRank {X : Type 0} (keeps : X → Bool) (xs : List X) (index : ℕ) (d : X) : Type 0 where
  pub inside : rank keeps xs index < length (filter keeps xs)
  pub same : get_or (filter keeps xs) (rank keeps xs index) d ≡ get_or xs index d

-- each kept element is at its rank
pub kept_at_rank : {X : Type 0} (keeps : X → Bool) (xs : List X) (index : ℕ) (d : X) → index < length xs → keeps (get_or xs index d) ≡ true →
    StandsAtRank keeps xs index d
kept_at_rank keeps [] index d inside passes = absurd (omega (arith, inside))
kept_at_rank {X} keeps (x ∷ xs) zero d inside passes = let r = first (keeps x) (filter keeps xs) passes in record { inside = r.0; same = r.1 }
  where
    -- a kept element in front is the first of the kept ones
    first : (b : Bool) (ys : List X) → b ≡ true → (0 < length (cond b (x ∷ ys) ys)) × (get_or (cond b (x ∷ ys) ys) 0 d ≡ x)
    first true ys is_true = (omega arith, refl)
    first false ys is_true = absurd (false≢true is_true)
kept_at_rank {X} keeps (x ∷ xs) (suc index) d inside passes =
    let r = kept_at_rank keeps xs index d (omega (arith, inside)) passes in
    let s = one_more (keeps x) (filter keeps (take index xs)) (filter keeps xs) r.inside r.same in
    record { inside = s.0; same = s.1 }
  where
    -- after one more element in front, kept or not, an element is at its rank
    one_more : (b : Bool) (ys zs : List X) → length ys < length zs → get_or zs (length ys) d ≡ get_or xs index d →
        (length (cond b (x ∷ ys) ys) < length (cond b (x ∷ zs) zs)) × (get_or (cond b (x ∷ zs) zs) (length (cond b (x ∷ ys) ys)) d ≡ get_or xs index d)
    one_more true ys zs less same = (omega (arith, less), same)
    one_more false ys zs less same = (less, same)

-- a kept element counts towards the rank of each later one
pub rank_less : {X : Type 0} (keeps : X → Bool) (xs : List X) (i j : ℕ) (d : X) → i < j → i < length xs → keeps (get_or xs i d) ≡ true →
    rank keeps xs i < rank keeps xs j
rank_less keeps [] i j d less inside passes = absurd (omega (arith, inside))
rank_less keeps (x ∷ xs) i zero d less inside passes = absurd (omega (arith, less))
rank_less {X} keeps (x ∷ xs) zero (suc j) d less inside passes = some (keeps x) (filter keeps (take j xs)) passes
  where
    -- a kept element in front makes the list nonempty
    some : (b : Bool) (ys : List X) → b ≡ true → 0 < length (cond b (x ∷ ys) ys)
    some true ys is_true = omega arith
    some false ys is_true = absurd (false≢true is_true)
rank_less {X} keeps (x ∷ xs) (suc i) (suc j) d less inside passes =
    one_more (keeps x) (filter keeps (take i xs)) (filter keeps (take j xs)) (rank_less keeps xs i j d (omega (arith, less)) (omega (arith, inside)) passes)
  where
    -- after one more element in front, kept or not, the shorter list remains shorter
    one_more : (b : Bool) (ys zs : List X) → length ys < length zs → length (cond b (x ∷ ys) ys) < length (cond b (x ∷ zs) zs)
    one_more true ys zs less = omega (arith, less)
    one_more false ys zs less = less

-- each index among the kept ones is the rank of a kept element
pub ranked : {X : Type 0} (keeps : X → Bool) (xs : List X) (k : ℕ) (d : X) → k < length (filter keeps xs) → (index : ℕ) × (index < length xs) ×
    (keeps (get_or xs index d) ≡ true) × (rank keeps xs index ≡ k)
ranked keeps [] k d inside = absurd (omega (arith, inside))
ranked {X} keeps (x ∷ xs) k d inside = by_test (λ n n_inside. ranked keeps xs n d n_inside) (keeps x) refl k inside
  where
    -- the rank of a later element counts the first element if that is kept
    later : (b : Bool) (index : ℕ) → keeps x ≡ b →
        rank keeps (x ∷ xs) (suc index) ≡ length (cond b (x ∷ filter keeps (take index xs)) (filter keeps (take index xs)))
    later b index is = ap (λ z. length (cond z (x ∷ filter keeps (take index xs)) (filter keeps (take index xs)))) is

    -- each index among the kept ones is a rank, after one more element in front, kept or not
    by_test : ((n : ℕ) → n < length (filter keeps xs) → (index : ℕ) × (index < length xs) × (keeps (get_or xs index d) ≡ true) × (rank keeps xs index ≡ n)) →
        (b : Bool) → keeps x ≡ b → (k : ℕ) → k < length (cond b (x ∷ filter keeps xs) (filter keeps xs)) → (index : ℕ) × (index < length (x ∷ xs)) ×
        (keeps (get_or (x ∷ xs) index d) ≡ true) × (rank keeps (x ∷ xs) index ≡ k)
    by_test following true is zero inside = (zero, omega arith, is, refl)
    by_test following true is (suc k) inside = let r = following k (omega (arith, inside)) in (suc r.0, omega (arith, r.1), r.2, later true r.0 is ∙ ap suc r.3)
    by_test following false is k inside = let r = following k inside in (suc r.0, omega (arith, r.1), r.2, later false r.0 is ∙ r.3)

-- the ranks in a mapped list
pub rank_map : {X Y : Type 0} (keeps : Y → Bool) (f : X → Y) (xs : List X) (index : ℕ) → rank keeps (map f xs) index ≡ rank (λ x. keeps (f x)) xs index
rank_map keeps f xs index = ap (λ z. length (filter keeps z)) (take-map f index xs) ∙ ap length (filter-map f keeps (take index xs))
    ∙ length-map (filter (λ x. keeps (f x)) (take index xs)) f
