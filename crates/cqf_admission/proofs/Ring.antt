-- The ring with one stream withdrawn, and with one slot emptied.
use Rattle.std.proofs.Common.{◌≡◌, ◌≢◌, ℕ, ◌+◌, ◌<◌, ◌%◌, Bool, true, false, List, Option, Some, None, [], ◌∷◌, ◌++◌}
use Rattle.std.proofs.Common.{get_or, set, length, refl, sym, ap, ◌∙◌, subst, arith}
use Rattle.std.proofs.Common.{◌≤◌, inl, inr, length-append}
use Rattle.std.specs.Prelude.{AllPairs, Contains, if◌then◌else◌, ◌==◌, ◌||◌, ◌&&◌}
use Rattle.std.specs.Option.{option_map_or}
use Rattle.std.specs.List.{list_any}
use Rattle.std.proofs.lemmas.Bool.{and_parts, and_right, both_ways, cases_Bool, cases_eq, cases_lt, eq-eqb, eqb-true, ne_eqb}
use Rattle.std.proofs.lemmas.List.{get_or-set_same, get_or-set_other, get_or_append_left, get_or_push, length-set}
use Rattle.std.proofs.lemmas.List.Elements.{Contains-append_cases}
use Rattle.cqf_units.specs.declared.reservations.Cycle.{Cycle}
use Rattle.cqf_model.specs.Table.{residence}
use Rattle.cqf_lists.proofs.Members.{any_member, contains_none, contains_one, member_any}
use Rattle.cqf_lists.proofs.Pairs.{pairs_append, pairs_none, pairs_one}
use Rattle.cqf_admission.specs.Holdings.{AreLetGo, IsHeldAt, Standing, let_go_if, released, with_row}
use Rattle.cqf_admission.specs.Rows.{ended}
use Rattle.cqf_admission.specs.Ring.{IsRing, in_slot}

-- the numbers of a list and one more
any_more : (number other : ℕ) (xs : List ℕ) → list_any (λ o. o == other) (xs ++ number ∷ []) ≡ (list_any (λ o. o == other) xs || (number == other))
any_more number other [] = or_none (number == other)
  where
    or_none : (b : Bool) → (b || false) ≡ (false || b)
    or_none true = refl
    or_none false = refl
any_more number other (x ∷ xs) = ap (λ (b : Bool). (x == other) || b) (any_more number other xs)
    ∙ or_assoc (x == other) (list_any (λ o. o == other) xs) (number == other)
  where
    or_assoc : (a b c : Bool) → (a || (b || c)) ≡ ((a || b) || c)
    or_assoc true b c = refl
    or_assoc false b c = refl

-- a stream in one slot is in no other
one_slot : (stand : Standing) (slot other : ℕ) → in_slot slot stand ≡ true → other ≢ slot → in_slot other stand ≡ false
one_slot stand slot other here differ = by_end stand.row.withdrawn refl
  where
    by_end : (o : Option Cycle) → stand.row.withdrawn ≡ o → in_slot other stand ≡ false
    by_end None e = ap (λ (x : Option Cycle). stand.held && option_map_or (λ (w : Cycle). (w.0 + residence stand.row) % 128 == other) x false) e
        ∙ and_right stand.held false refl
    by_end (Some w) e =
        let parts = and_parts stand.held (option_map_or (λ (x : Cycle). (x.0 + residence stand.row) % 128 == slot) stand.row.withdrawn false) here in
        let is : ((w.0 + residence stand.row) % 128 == slot) ≡ true =
        sym (ap (λ (x : Option Cycle). option_map_or (λ (y : Cycle). (y.0 + residence stand.row) % 128 == slot) x false) e) ∙ parts.1 in
        let no : ((w.0 + residence stand.row) % 128 == other) ≡ false =
        ne_eqb ((w.0 + residence stand.row) % 128) other (λ same. differ (sym same ∙ eqb-true ((w.0 + residence stand.row) % 128) slot is)) in
        ap (λ (x : Option Cycle). stand.held && option_map_or (λ (y : Cycle). (y.0 + residence stand.row) % 128 == other) x false) e
        ∙ and_right stand.held ((w.0 + residence stand.row) % 128 == other) no

module _ (stands : List Standing) (slots : List (List ℕ)) (r : IsRing stands slots) where
  -- ---- one slot emptied
  module _ (slot : ℕ) (after : List Standing) (low : slot < 128) (gone : AreLetGo (get_or slots slot []) stands after) where
    emptied : get_or (set slots slot []) slot [] ≡ []
    emptied = get_or-set_same slots slot [] [] (omega (arith, low, r.as_many))

    others : (other : ℕ) → other ≢ slot → get_or (set slots slot []) other [] ≡ get_or slots other []
    others other differ = get_or-set_other slots slot other [] [] differ

    lists_sealed : (other number : ℕ) (d : Standing) → other < 128 → number < length after →
        list_any (λ o. o == number) (get_or (set slots slot []) other []) ≡ in_slot other (get_or after number d)
    lists_sealed other number d below inside = elim (cases_eq other slot) [
      | inl same ↦
          (ap (λ (s : ℕ). list_any (λ o. o == number) (get_or (set slots slot []) s [])) same ∙ ap (list_any (λ o. o == number)) emptied
          ∙ sym (here listed (r.lists slot number d low was)) ∙ ap (λ (s : ℕ). in_slot s (let_go_if (get_or slots slot []) number stand)) (sym same)
          ∙ sym now)
      | inr differ ↦
          (ap (list_any (λ o. o == number)) (others other differ) ∙ r.lists other number d below was
          ∙ elsewhere differ listed (r.lists slot number d low was) ∙ sym now)
    ]
      where
        was : number < length stands
        was = omega (arith, inside, gone.as_many)

        stand : Standing
        stand = get_or stands number d

        listed : Bool
        listed = list_any (λ o. o == number) (get_or slots slot [])

        now : in_slot other (get_or after number d) ≡ in_slot other (let_go_if (get_or slots slot []) number stand)
        now = ap (in_slot other) (gone.each number d was)

        here : (b : Bool) → b ≡ in_slot slot stand → in_slot slot (if b then released stand else stand) ≡ false
        here true e = refl
        here false e = sym e

        elsewhere : other ≢ slot → (b : Bool) → b ≡ in_slot slot stand → in_slot other stand ≡ in_slot other (if b then released stand else stand)
        elsewhere differ true e = one_slot stand slot other (sym e) differ
        elsewhere differ false e = refl

    pub ring_sealed : IsRing after (set slots slot [])
    ring_sealed = record {
      as_many = length-set slots slot [] ∙ r.as_many;
      lists = lists_sealed;
      inside = λ other number below c. elim (cases_eq other slot) [
        | inl same ↦ absurd (contains_none number (subst (λ (xs : List ℕ). Contains xs number)
            (ap (λ (s : ℕ). get_or (set slots slot []) s []) same ∙ emptied) c))
        | inr differ ↦ (let old = r.inside other number below (subst (λ (xs : List ℕ). Contains xs number) (others other differ) c) in
            omega (arith, old, gone.as_many))
      ];
      once = λ other below. elim (cases_eq other slot) [
        | inl same ↦ subst (AllPairs (λ (a b : ℕ). a ≢ b)) (sym (ap (λ (s : ℕ). get_or (set slots slot []) s []) same ∙ emptied))
            (pairs_none (λ (a b : ℕ). a ≢ b))
        | inr differ ↦ subst (AllPairs (λ (a b : ℕ). a ≢ b)) (sym (others other differ)) (r.once other below)
      ];
    }

  -- ---- one stream withdrawn
  module _ (number : ℕ) (cycle : Cycle) (stand : Standing) (held : IsHeldAt stands number) (was : (d : Standing) → get_or stands number d ≡ stand)
      (open_end : stand.row.withdrawn ≡ None) (slot : ℕ) (is_slot : slot ≡ (cycle.0 + residence stand.row) % 128) (low : slot < 128) where
    -- it was in no slot
    in_none : (other : ℕ) → in_slot other stand ≡ false
    in_none other = ap (λ (x : Option Cycle). stand.held && option_map_or (λ (w : Cycle). (w.0 + residence stand.row) % 128 == other) x false) open_end
        ∙ and_right stand.held false refl

    unlisted : (other : ℕ) → other < 128 → list_any (λ o. o == number) (get_or slots other []) ≡ false
    unlisted other below = r.lists other number stand below held.inside ∙ ap (in_slot other) (was stand) ∙ in_none other

    -- it is in one slot now
    in_one : (other : ℕ) → in_slot other (with_row stand (ended stand.row cycle)) ≡ (slot == other)
    in_one other =
        ap (λ (b : Bool). b && ((cycle.0 + residence stand.row) % 128 == other)) (sym (ap (λ (x : Standing). x.held) (was stand)) ∙ held.held stand)
        ∙ ap (λ (n : ℕ). n == other) (sym is_slot)

    here : get_or (set slots slot (get_or slots slot [] ++ number ∷ [])) slot [] ≡ get_or slots slot [] ++ number ∷ []
    here = get_or-set_same slots slot (get_or slots slot [] ++ number ∷ []) [] (omega (arith, low, r.as_many))

    beside : (other : ℕ) → other ≢ slot → get_or (set slots slot (get_or slots slot [] ++ number ∷ [])) other [] ≡ get_or slots other []
    beside other differ = get_or-set_other slots slot other (get_or slots slot [] ++ number ∷ []) [] differ

    -- for each number, what its slot lists
    lists_other : (other k : ℕ) → other < 128 →
        list_any (λ o. o == k) (get_or (set slots slot (get_or slots slot [] ++ number ∷ [])) other [])
        ≡ (list_any (λ o. o == k) (get_or slots other []) || ((slot == other) && (number == k)))
    lists_other other k below = elim (cases_eq other slot) [
      | inl same ↦
          (ap (λ (s : ℕ). list_any (λ o. o == k) (get_or (set slots slot (get_or slots slot [] ++ number ∷ [])) s [])) same
          ∙ ap (list_any (λ o. o == k)) here ∙ any_more number k (get_or slots slot [])
          ∙ ap (λ (s : ℕ). list_any (λ o. o == k) (get_or slots s []) || (number == k)) (sym same)
          ∙ sym (ap (λ (b : Bool). list_any (λ o. o == k) (get_or slots other []) || (b && (number == k))) (eq-eqb slot other (sym same))))
      | inr differ ↦
          (ap (list_any (λ o. o == k)) (beside other differ) ∙ sym (or_false (list_any (λ o. o == k) (get_or slots other [])))
          ∙ sym (ap (λ (b : Bool). list_any (λ o. o == k) (get_or slots other []) || (b && (number == k))) (ne_eqb slot other (λ e. differ (sym e)))))
    ]
      where
        or_false : (b : Bool) → (b || false) ≡ b
        or_false true = refl
        or_false false = refl

    pub ring_withdrawn : IsRing (set stands number (with_row stand (ended stand.row cycle))) (set slots slot (get_or slots slot [] ++ number ∷ []))
    ring_withdrawn = record {
      as_many = length-set slots slot (get_or slots slot [] ++ number ∷ []) ∙ r.as_many;
      lists = λ other k d below inside.
          let within : k < length stands = omega (arith, inside, length-set stands number (with_row stand (ended stand.row cycle))) in
          elim (cases_eq k number) [
            | inl same ↦
                (lists_other other k below
                ∙ ap (λ (n : ℕ). list_any (λ o. o == n) (get_or slots other []) || ((slot == other) && (number == n))) same
                ∙ ap (λ (b : Bool). b || ((slot == other) && (number == number))) (unlisted other below)
                ∙ ap (λ (b : Bool). (slot == other) && b) (eq-eqb number number refl) ∙ and_true (slot == other)
                ∙ sym (in_one other)
                ∙ sym (ap (in_slot other) (ap (λ (n : ℕ). get_or (set stands number (with_row stand (ended stand.row cycle))) n d) same
                ∙ get_or-set_same stands number (with_row stand (ended stand.row cycle)) d held.inside)))
            | inr differ ↦
                (lists_other other k below
                ∙ ap (λ (b : Bool). list_any (λ o. o == k) (get_or slots other []) || ((slot == other) && b)) (ne_eqb number k (λ e. differ (sym e)))
                ∙ or_and_false (list_any (λ o. o == k) (get_or slots other [])) (slot == other)
                ∙ r.lists other k d below within
                ∙ sym (ap (in_slot other) (get_or-set_other stands number k (with_row stand (ended stand.row cycle)) d differ)))
          ];
      inside = λ other k below c. elim (cases_eq other slot) [
        | inl same ↦ (
            let moved : Contains (get_or slots slot [] ++ number ∷ []) k = subst (λ (xs : List ℕ). Contains xs k)
            (ap (λ (s : ℕ). get_or (set slots slot (get_or slots slot [] ++ number ∷ [])) s []) same ∙ here) c in
            elim (Contains-append_cases (get_or slots slot []) (number ∷ []) k moved) [
              | inl old ↦ omega (arith, r.inside slot k low old, length-set stands number (with_row stand (ended stand.row cycle)))
              | inr new ↦ omega (arith, held.inside, contains_one number k new, length-set stands number (with_row stand (ended stand.row cycle)))
            ])
        | inr differ ↦ (let old = r.inside other k below (subst (λ (xs : List ℕ). Contains xs k) (beside other differ) c) in
            omega (arith, old, length-set stands number (with_row stand (ended stand.row cycle))))
      ];
      once = λ other below. elim (cases_eq other slot) [
        | inl same ↦ subst (AllPairs (λ (a b : ℕ). a ≢ b))
            (sym (ap (λ (s : ℕ). get_or (set slots slot (get_or slots slot [] ++ number ∷ [])) s []) same ∙ here))
            (pairs_append (λ (a b : ℕ). a ≢ b) (get_or slots slot []) (number ∷ []) (r.once slot low) (pairs_one (λ (a b : ℕ). a ≢ b) number)
            (λ x y first second same_number.
            both_ways (list_any (λ o. o == number) (get_or slots slot [])) (unlisted slot low)
            (member_any (λ o. o == number) (get_or slots slot []) x first (eq-eqb x number (same_number ∙ sym (contains_one number y second))))))
        | inr differ ↦ subst (AllPairs (λ (a b : ℕ). a ≢ b)) (sym (beside other differ)) (r.once other below)
      ];
    }
      where
        and_true : (b : Bool) → (b && true) ≡ b
        and_true true = refl
        and_true false = refl

        or_and_false : (a b : Bool) → (a || (b && false)) ≡ a
        or_and_false true b = refl
        or_and_false false true = refl
        or_and_false false false = refl

-- ---- one more stream, which isn't withdrawn

pub ring_pushed : (stands : List Standing) (slots : List (List ℕ)) → IsRing stands slots → (s : Standing) → s.row.withdrawn ≡ None → IsRing (stands ++ s ∷ []) slots
ring_pushed stands slots r s live = record {
  as_many = r.as_many;
  lists = λ slot number d low below. elim (cases_lt number (length stands)) [
    | inl old ↦ r.lists slot number d low old ∙ ap (in_slot slot) (sym (get_or_append_left stands (s ∷ []) d number old))
    | inr new ↦ (
        let last : number ≡ length stands = omega (arith, new, below, length-append stands (s ∷ [])) in
        let at : get_or (stands ++ s ∷ []) number d ≡ s = get_or_push stands s d number (sym last) in
        not_listed slot number low new ∙ sym (ap (in_slot slot) at ∙ no_slot slot))
  ];
  inside = λ slot number low there. omega (arith, r.inside slot number low there, length-append stands (s ∷ []));
  once = r.once;
}
  where
    -- the new stream is in no slot
    no_slot : (slot : ℕ) → in_slot slot s ≡ false
    no_slot slot = ap (λ (o : Option Cycle). s.held && option_map_or (λ (w : Cycle). (w.0 + residence s.row) % 128 == slot) o false) live
        ∙ and_right s.held false refl

    -- no slot lists it
    not_listed : (slot number : ℕ) → slot < 128 → length stands ≤ number → list_any (λ o. o == number) (get_or slots slot []) ≡ false
    not_listed slot number low following = elim (cases_Bool (list_any (λ o. o == number) (get_or slots slot []))) [
      | inl some ↦ (
          let found = any_member (λ o. o == number) (get_or slots slot []) some in
          absurd (omega (arith, r.inside slot found.0 low found.1, eqb-true found.0 number found.2, following)))
      | inr none ↦ none
    ]
