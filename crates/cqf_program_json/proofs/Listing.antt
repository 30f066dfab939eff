-- Elements of an array, one more at each step.
use Rattle.std.proofs.Common.{ℕ, zero, suc, ◌≡◌, ◌<◌, ◌+◌, ◌++◌, ◌==◌, ◌∙◌, ◌&&◌, Bool, true, false, not, List, [], ◌∷◌, ap, append-nil, append_assoc, arith}
use Rattle.std.proofs.Common.{add-one, cond, get_or, length, map, refl, sym, take}
use Rattle.std.proofs.lemmas.Bool.Decides.{nat_tests}
use Rattle.std.proofs.lemmas.List.{get_or_default, map-append, take_more}
use Rattle.cqf_lists.specs.Lists.{each_below}
use Rattle.cqf_model.specs.Domain.{Domain, leaves}
use Rattle.cqf_program_json.specs.Arrays.{front_text, is_nil, listed}
use Rattle.cqf_program_json.specs.Text.{left_below, numbers_below}

also_true : (b : Bool) → b ≡ (b && true)
also_true true = refl
also_true false = refl

never_true : (b : Bool) → false ≡ (b && false)
never_true true = refl
never_true false = refl

-- a number above 0 isn't 0
not_zero : (n : ℕ) → (suc n == 0) ≡ false
not_zero n = grind (arith, nat_tests)

-- one element after others
listed_after : (first : Bool) (texts : List (List ℕ)) (text : List ℕ) →
    listed first (texts ++ text ∷ []) ≡ listed first texts ++ (front_text (first && is_nil texts) ++ text)
listed_after first [] text =
    ap (λ (z : List ℕ). front_text first ++ z) (append-nil text) ∙ ap (λ (b : Bool). front_text b ++ text) (also_true first)
listed_after first (x ∷ texts) text =
    ap (λ (z : List ℕ). front_text first ++ (x ++ z)) (listed_after false texts text)
    ∙ ap (λ (b : Bool). front_text first ++ (x ++ (listed false texts ++ (front_text b ++ text)))) (never_true first)
    ∙ ap (λ (z : List ℕ). front_text first ++ z) (sym (append_assoc x (listed false texts) (front_text (first && false) ++ text)))
    ∙ sym (append_assoc (front_text first) (x ++ listed false texts) (front_text (first && false) ++ text))

module _ {A : Type 0} (f : A → List ℕ) where
  pub nil_map : (xs : List A) → is_nil (map f xs) ≡ is_nil xs
  nil_map [] = refl
  nil_map (x ∷ xs) = refl

  -- there are none if and only if their number is 0
  pub nil_length : (xs : List A) → (length xs == 0) ≡ is_nil (map f xs)
  nil_length [] = refl
  nil_length (x ∷ xs) = not_zero (length xs)

  -- one more element after some others
  pub listed_next : (xs : List A) (x : A) →
      listed true (map f (xs ++ x ∷ [])) ≡ listed true (map f xs) ++ (front_text (is_nil xs) ++ f x)
  listed_next xs x =
      ap (listed true) (map-append f xs (x ∷ [])) ∙ listed_after true (map f xs) (f x)
      ∙ ap (λ (b : Bool). listed true (map f xs) ++ (front_text b ++ f x)) (nil_map xs)

  nil_at : (xs : List A) (k : ℕ) → k < length xs → is_nil (take k xs) ≡ (k == 0)
  nil_at [] k inside = absurd (omega arith)
  nil_at (x ∷ xs) zero inside = refl
  nil_at (x ∷ xs) (suc k) inside = sym (not_zero k)

  -- the element at an index, after those before it
  pub listed_more : (xs : List A) (k : ℕ) (x : A) → k < length xs → x ≡ get_or xs k x →
      listed true (map f (take (k + 1) xs)) ≡ listed true (map f (take k xs)) ++ (front_text (k == 0) ++ f x)
  listed_more xs k x inside at =
      ap (λ (z : List A). listed true (map f z)) (take_more xs k x inside ∙ ap (λ (y : A). take k xs ++ y ∷ []) (sym at))
      ∙ listed_next (take k xs) x
      ∙ ap (λ (b : Bool). listed true (map f (take k xs)) ++ (front_text b ++ f x)) (nil_at xs k inside)

  pub listed_at : (xs : List A) (k : ℕ) (d : A) → k < length xs →
      listed true (map f (take (k + 1) xs)) ≡ listed true (map f (take k xs)) ++ (front_text (k == 0) ++ f (get_or xs k d))
  listed_at xs k d inside = listed_more xs k (get_or xs k d) inside (get_or_default xs k d (get_or xs k d) inside)

-- the numbers below a bound
nil_numbers : (k : ℕ) → is_nil (numbers_below k) ≡ (k == 0)
nil_numbers zero = refl
nil_numbers (suc k) = by (numbers_below k) ∙ sym (not_zero k)
  where
    by : (xs : List ℕ) → is_nil (xs ++ k ∷ []) ≡ false
    by [] = refl
    by (x ∷ xs) = refl

pub listed_number : (f : ℕ → List ℕ) (k : ℕ) →
    listed true (map f (numbers_below (k + 1))) ≡ listed true (map f (numbers_below k)) ++ (front_text (k == 0) ++ f k)
listed_number f k =
    ap (λ (n : ℕ). listed true (map f (numbers_below n))) (add-one k)
    ∙ listed_next f (numbers_below k) k
    ∙ ap (λ (b : Bool). listed true (map f (numbers_below k)) ++ (front_text b ++ f k)) (nil_numbers k)

pub nil_of_numbers : (f : ℕ → List ℕ) (k : ℕ) → (k == 0) ≡ is_nil (map f (numbers_below k))
nil_of_numbers f k = sym (nil_map f (numbers_below k) ∙ nil_numbers k)

-- the links that leave a bridge, by number: their ports so far, and whether there is none
pub record ArePorts (Written : List ℕ → Type 0) (text : ℕ → List ℕ) (d : Domain) (bridge count : ℕ) (is_first : Bool) : Type 0 where
  pub put : Written (listed true (map text (left_below d bridge count)))
  pub first : is_first ≡ is_nil (left_below d bridge count)

module _ (text : ℕ → List ℕ) (d : Domain) (bridge count : ℕ) where
  left_next : left_below d bridge (count + 1) ≡ left_below d bridge count ++ cond (leaves d count bridge) (count ∷ []) []
  left_next = ap (left_below d bridge) (add-one count)

  -- one more link: its port is put if the link leaves the bridge
  pub ports_more :
      listed true (map text (left_below d bridge (count + 1)))
      ≡ listed true (map text (left_below d bridge count))
      ++ cond (leaves d count bridge) (front_text (is_nil (left_below d bridge count)) ++ text count) []
  ports_more = ap (λ (z : List ℕ). listed true (map text z)) left_next ∙ by (leaves d count bridge)
    where
      by : (b : Bool) → listed true (map text (left_below d bridge count ++ cond b (count ∷ []) []))
          ≡ listed true (map text (left_below d bridge count)) ++ cond b (front_text (is_nil (left_below d bridge count)) ++ text count) []
      by true = listed_next text (left_below d bridge count) count
      by false = ap (λ (z : List ℕ). listed true (map text z)) (append-nil (left_below d bridge count)) ∙ sym (append-nil _)

  pub first_more : is_nil (left_below d bridge (count + 1)) ≡ (is_nil (left_below d bridge count) && not (leaves d count bridge))
  first_more = ap is_nil left_next ∙ by (left_below d bridge count) (leaves d count bridge)
    where
      by : (xs : List ℕ) (b : Bool) → is_nil (xs ++ cond b (count ∷ []) []) ≡ (is_nil xs && not b)
      by [] true = refl
      by [] false = refl
      by (x ∷ xs) b = refl
