-- Streams that are released one after the other.
use Rattle.std.proofs.Common.{◌≡◌, ◌≢◌, ℕ, ◌<◌, Bool, true, false, List, [], ◌∷◌, ◌++◌, get_or, set, length, refl, sym}
use Rattle.std.proofs.Common.{ap, ◌∙◌, subst, arith, inl, inr, append_assoc}
use Rattle.std.specs.Prelude.{AllPairs, Contains, if◌then◌else◌, ◌==◌, ◌||◌}
use Rattle.std.specs.List.{list_any}
use Rattle.std.proofs.lemmas.Bool.{cases_Bool, eq-eqb, eqb-true, ne_eqb}
use Rattle.std.proofs.lemmas.List.{get_or-set_same, get_or-set_other, length-set}
use Rattle.std.proofs.lemmas.List.Elements.{Contains-append_right}
use Rattle.cqf_lists.proofs.Members.{any_member, contains_here}
use Rattle.cqf_lists.proofs.Pairs.{pairs_head, pairs_second}
use Rattle.cqf_admission.specs.Holdings.{Standing}
use Rattle.cqf_admission.specs.Holdings.{AreLetGo, IsHeldAt, let_go_if, released}
use Rattle.cqf_admission.proofs.Figures.{same_or_not}

-- the last of the listed numbers were taken, and their streams are released
pub record AreTaken (numbers : List ℕ) (rows : List Standing) (left : List ℕ) (now : List Standing) : Type 0 where
  pub taken : List ℕ
  pub is : numbers ≡ left ++ taken
  pub gone : AreLetGo taken rows now

-- at the start none was taken
pub none_taken : (numbers : List ℕ) (rows : List Standing) → AreTaken numbers rows numbers rows
none_taken numbers rows = record {
  taken = [];
  is = sym (append_none numbers);
  gone = record { as_many = refl; each = λ number d low. refl };
}
  where
    append_none : (xs : List ℕ) → xs ++ [] ≡ xs
    append_none [] = refl
    append_none (x ∷ xs) = ap (λ (ys : List ℕ). x ∷ ys) (append_none xs)

module _ (numbers : List ℕ) (rows : List Standing) (left : List ℕ) (now : List Standing) (t : AreTaken numbers rows left now) where
  module _ (number : ℕ) (less : List ℕ) (last : left ≡ less ++ number ∷ []) where
    -- the list, with the next number in the middle
    midst : numbers ≡ less ++ (number ∷ t.taken)
    midst = t.is ∙ ap (λ (xs : List ℕ). xs ++ t.taken) last ∙ append_assoc less (number ∷ []) t.taken

    listed : Contains numbers number
    listed = subst (λ (xs : List ℕ). Contains xs number) (sym midst) (Contains-append_right less (number ∷ t.taken) number (contains_here number t.taken))

    -- the next one wasn't taken before
    not_taken : AllPairs (λ (a b : ℕ). a ≢ b) numbers → list_any (λ other. other == number) t.taken ≡ false
    not_taken once = elim (cases_Bool (list_any (λ other. other == number) t.taken)) [
      | inl some ↦ (
          let found = any_member (λ other. other == number) t.taken some in
          let pairs : AllPairs (λ (a b : ℕ). a ≢ b) (less ++ (number ∷ t.taken)) = subst (AllPairs (λ (a b : ℕ). a ≢ b)) midst once in
          absurd (pairs_head (λ (a b : ℕ). a ≢ b) number t.taken found.0
          (pairs_second (λ (a b : ℕ). a ≢ b) less (number ∷ t.taken) pairs) found.1 (sym (eqb-true found.0 number found.2))))
      | inr none ↦ none
    ]

    -- so its stream is still held
    pub held_yet : ((k : ℕ) → Contains numbers k → IsHeldAt rows k) → AllPairs (λ (a b : ℕ). a ≢ b) numbers → IsHeldAt now number
    held_yet held once =
        let first = held number listed in
        record {
          inside = omega (arith, first.inside, t.gone.as_many);
          held = λ d.
              ap (λ (x : Standing). x.held) (t.gone.each number d first.inside
              ∙ ap (λ (b : Bool). if b then released (get_or rows number d) else get_or rows number d) (not_taken once)) ∙ first.held d;
        }

    -- releasing it takes one more number
    pub one_taken : (after : List Standing) → number < length now → ((d : Standing) → after ≡ set now number (released (get_or now number d))) →
        AreTaken numbers rows less after
    one_taken after inside set_is = record {
      taken = number ∷ t.taken;
      is = midst;
      gone = record {
        as_many = ap (λ (xs : List Standing). length xs) (set_is some) ∙ length-set now number (released (get_or now number some)) ∙ t.gone.as_many;
        each = λ k d low. elim (same_or_not k number) [
          | inl same ↦ at_number k d low same
          | inr differ ↦ elsewhere k d low differ
        ];
      };
    }
      where
        some : Standing
        some = first_of now (omega (arith, inside))
          where
            first_of : (xs : List Standing) → 0 < length xs → Standing
            first_of [] h = absurd (omega (arith, h))
            first_of (x ∷ xs) h = x

        released_once : (b : Bool) (s : Standing) → released (if b then released s else s) ≡ released s
        released_once true s = refl
        released_once false s = refl

        at_number : (k : ℕ) (d : Standing) → k < length rows → k ≡ number → get_or after k d ≡ let_go_if (number ∷ t.taken) k (get_or rows k d)
        at_number k d low same =
            ap (λ (xs : List Standing). get_or xs k d) (set_is d)
            ∙ ap (λ (n : ℕ). get_or (set now number (released (get_or now number d))) n d) same
            ∙ get_or-set_same now number (released (get_or now number d)) d inside
            ∙ ap (λ (n : ℕ). released (get_or now n d)) (sym same)
            ∙ ap released (t.gone.each k d low)
            ∙ released_once (list_any (λ other. other == k) t.taken) (get_or rows k d)
            ∙ sym (ap (λ (b : Bool). if b || list_any (λ other. other == k) t.taken then released (get_or rows k d) else get_or rows k d)
            (eq-eqb number k (sym same)))

        elsewhere : (k : ℕ) (d : Standing) → k < length rows → k ≢ number → get_or after k d ≡ let_go_if (number ∷ t.taken) k (get_or rows k d)
        elsewhere k d low differ =
            ap (λ (xs : List Standing). get_or xs k d) (set_is d)
            ∙ get_or-set_other now number k (released (get_or now number d)) d differ
            ∙ t.gone.each k d low
            ∙ sym (ap (λ (b : Bool). if b || list_any (λ other. other == k) t.taken then released (get_or rows k d) else get_or rows k d)
            (ne_eqb number k (λ e. differ (sym e))))

-- at the end all were taken
pub all_taken : (numbers : List ℕ) (rows now : List Standing) → AreTaken numbers rows [] now → AreLetGo numbers rows now
all_taken numbers rows now t = subst (λ (xs : List ℕ). AreLetGo xs rows now) (sym t.is) t.gone
