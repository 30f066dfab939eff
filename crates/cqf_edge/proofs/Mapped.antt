-- Lists made one element after the other.
use Rattle.std.proofs.Common.{◌≡◌, ℕ, suc, ◌+◌, ◌<◌, ◌++◌, ◌∷◌, [], ◌∙◌, List, add-one, ap, append_assoc, arith, drop, drop-cons, get_or, length, length-append}
use Rattle.std.proofs.Common.{All, map, refl, subst, sym, take}
use Rattle.std.proofs.lemmas.List.{get_or-map, length-map, map-append, take_more}

-- one element more is one more
pub one_longer : {X : Type 0} (done after : List X) (x : X) (k : ℕ) → after ≡ done ++ x ∷ [] → length done ≡ k → length after ≡ k + 1
one_longer done after x k more count =
    let longer : length after ≡ length (done ++ x ∷ []) = ap length more in
    let parts : length (done ++ x ∷ []) ≡ length done + length (x ∷ []) = length-append done (x ∷ []) in
    let one : length (x ∷ []) ≡ 1 = refl in
    omega (arith, longer, parts, one, count)

-- what holds of each element, and of what each is mapped to
pub at_item : {X : Type 0} (P : X → Type 0) (xs : List X) (k : ℕ) (x : X) → k < length xs → x ≡ get_or xs k x → All P xs → P x
at_item P xs k x inside is all = subst P (sym is) (all k x inside)

pub at_mapped : {X Y : Type 0} (P : Y → Type 0) (f : X → Y) (xs : List X) (k : ℕ) (x : X) → k < length xs → x ≡ get_or xs k x → All P (map f xs) → P (f x)
at_mapped P f xs k x inside is all =
    let same : length (map f xs) ≡ length xs = length-map xs f in
    subst P (get_or-map f xs k x (f x) inside ∙ ap f (sym is)) (all k (f x) (omega (arith, inside, same)))

-- by a function
pub map_next : {X Y : Type 0} (f : X → Y) (xs : List X) (k : ℕ) (x : X) (done after : List Y) (y : Y) → k < length xs → x ≡ get_or xs k x →
    after ≡ done ++ y ∷ [] → y ≡ f x → done ≡ map f (take k xs) → after ≡ map f (take (k + 1) xs)
map_next f xs k x done after y inside is more same before =
    more ∙ (λ i. before i ++ same i ∷ []) ∙ sym (map-append f (take k xs) (x ∷ []))
    ∙ ap (map f) (ap (λ z. take k xs ++ z ∷ []) is ∙ sym (take_more xs k x inside))

-- by one of two lists, side by side, from an index on
module _ {X Y Z : Type 0} (one : X → Y → Z) (each : List X → List Y → List Z)
    (by_one : (x : X) (xs : List X) (y : Y) (ys : List Y) → each (x ∷ xs) (y ∷ ys) ≡ one x y ∷ each xs ys) where
  pub both_next : (xs : List X) (ys : List Y) (k : ℕ) (x dx : X) (y dy : Y) (done after : List Z) (z : Z) → k < length xs → k < length ys →
      x ≡ get_or xs k dx → y ≡ get_or ys k dy → after ≡ done ++ z ∷ [] → z ≡ one x y →
      after ++ each (drop (k + 1) xs) (drop (k + 1) ys) ≡ done ++ each (drop k xs) (drop k ys)
  both_next xs ys k x dx y dy done after z inside within is at more same =
      (λ i. more i ++ each (drop (add-one k i) xs) (drop (add-one k i) ys))
      ∙ append_assoc done (z ∷ []) (each (drop (suc k) xs) (drop (suc k) ys))
      ∙ ap (λ w. done ++ (w ∷ each (drop (suc k) xs) (drop (suc k) ys))) same
      ∙ ap (λ ws. done ++ ws) (sym (by_one x (drop (suc k) xs) y (drop (suc k) ys)))
      ∙ (λ i. done ++ each ((ap (λ w. w ∷ drop (suc k) xs) is ∙ sym (drop-cons xs k dx inside)) i) ((ap (λ w. w ∷ drop (suc k) ys) at ∙ sym (drop-cons ys k dy within)) i))

-- and where the second list is what is still to come
module _ {P V W Y : Type 0} (text : Y → W) (one : P → V → W) (each : List P → List V → List W)
    (by_one : (p : P) (ps : List P) (v : V) (vs : List V) → each (p ∷ ps) (v ∷ vs) ≡ one p v ∷ each ps vs) where
  pub come_next : (ps : List P) (k : ℕ) (p d : P) (done after : List Y) (y : Y) (v : V) (before rest : List V) → k < length ps → p ≡ get_or ps k d →
      k ≡ length done → after ≡ done ++ y ∷ [] → before ≡ v ∷ rest → text y ≡ one p v →
      map text after ++ each (drop (length after) ps) rest ≡ map text done ++ each (drop (length done) ps) before
  come_next ps k p d done after y v before rest inside is at more front same =
      ap (λ (ys : List Y). map text ys ++ each (drop (length ys) ps) rest) more
      ∙ (λ i. map-append text done (y ∷ []) i ++ each (drop (count i) ps) rest)
      ∙ append_assoc (map text done) (text y ∷ []) (each (drop (suc k) ps) rest)
      ∙ ap (λ w. map text done ++ (w ∷ each (drop (suc k) ps) rest)) same
      ∙ ap (λ ws. map text done ++ ws) (sym (by_one p (drop (suc k) ps) v rest))
      ∙ (λ i. map text done ++ each (taken i) (sym front i))
    where
      count : length (done ++ y ∷ []) ≡ suc k
      count = one_longer done (done ++ y ∷ []) y k refl (sym at) ∙ add-one k

      taken : p ∷ drop (suc k) ps ≡ drop (length done) ps
      taken = ap (λ x. x ∷ drop (suc k) ps) is ∙ sym (drop-cons ps k d inside) ∙ ap (λ n. drop n ps) at

-- of three lists, likewise
module _ {O P V W Y : Type 0} (text : Y → W) (one : O → P → V → W) (each : List O → List P → List V → List W)
    (by_one : (o : O) (os : List O) (p : P) (ps : List P) (v : V) (vs : List V) → each (o ∷ os) (p ∷ ps) (v ∷ vs) ≡ one o p v ∷ each os ps vs) where
  pub three_next : (os : List O) (ps : List P) (k : ℕ) (o e : O) (p d : P) (done after : List Y) (y : Y) (v : V) (before rest : List V) → k < length os →
      k < length ps → o ≡ get_or os k e → p ≡ get_or ps k d → k ≡ length done → after ≡ done ++ y ∷ [] → before ≡ v ∷ rest → text y ≡ one o p v →
      map text after ++ each (drop (length after) os) (drop (length after) ps) rest
      ≡ map text done ++ each (drop (length done) os) (drop (length done) ps) before
  three_next os ps k o e p d done after y v before rest within inside was is at more front same =
      ap (λ (ys : List Y). map text ys ++ each (drop (length ys) os) (drop (length ys) ps) rest) more
      ∙ (λ i. map-append text done (y ∷ []) i ++ each (drop (count i) os) (drop (count i) ps) rest)
      ∙ append_assoc (map text done) (text y ∷ []) (each (drop (suc k) os) (drop (suc k) ps) rest)
      ∙ ap (λ w. map text done ++ (w ∷ each (drop (suc k) os) (drop (suc k) ps) rest)) same
      ∙ ap (λ ws. map text done ++ ws) (sym (by_one o (drop (suc k) os) p (drop (suc k) ps) v rest))
      ∙ (λ i. map text done ++ each (first i) (second i) (sym front i))
    where
      count : length (done ++ y ∷ []) ≡ suc k
      count = one_longer done (done ++ y ∷ []) y k refl (sym at) ∙ add-one k

      first : o ∷ drop (suc k) os ≡ drop (length done) os
      first = ap (λ x. x ∷ drop (suc k) os) was ∙ sym (drop-cons os k e within) ∙ ap (λ n. drop n os) at

      second : p ∷ drop (suc k) ps ≡ drop (length done) ps
      second = ap (λ x. x ∷ drop (suc k) ps) is ∙ sym (drop-cons ps k d inside) ∙ ap (λ n. drop n ps) at
