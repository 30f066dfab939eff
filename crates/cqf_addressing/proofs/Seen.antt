-- The gate indexes seen so far, with one more for each stream.
use Rattle.std.proofs.Common.{ℕ, ◌≡◌, ◌<◌, ◌≤◌, ◌+◌, ◌++◌, ◌==◌, ◌∙◌, ◌||◌, Bool, true, false, List, [], ◌∷◌, Some, None}
use Rattle.std.proofs.Common.{add-one, ap, arith, cond, drop, drop-cons, get_or, inl, inr, length, refl, set, subst, suc, sym, take}
use Rattle.std.specs.Prelude.{replicate}
use Rattle.std.specs.List.{list_any}
use Rattle.std.proofs.lemmas.Bool.{cases_lt}
use Rattle.std.proofs.lemmas.Bool.Decides.{eqb_tells}
use Rattle.std.proofs.lemmas.List.{drop_all, get_or-replicate, get_or-set_other, get_or-set_same, get_or_past, length-replicate, length-set, length-take-le, take_more}
use Rattle.std.proofs.lemmas.List.Folds.{list_any-append}
use Rattle.cqf_addressing.specs.declared.streams.StreamAddress.{StreamAddress}
use Rattle.cqf_addressing.specs.Streams.{first_again, first_gate_twice, gate_of, gates_from}

-- one more gate index after others
gates_after : (number : ℕ) (front : List StreamAddress) (x : StreamAddress) → gates_from number (front ++ x ∷ []) ≡ gates_from number front ++ gate_of (number + length front) x ∷ []
gates_after number [] x = ap (λ (n : ℕ). gate_of n x ∷ []) (omega arith)
gates_after number (y ∷ front) x =
    ap (λ (rest : List ℕ). gate_of number y ∷ rest) (gates_after (number + 1) front x)
    ∙ ap (λ (n : ℕ). gate_of number y ∷ (gates_from (number + 1) front ++ gate_of n x ∷ [])) (omega arith)

length-gates : (number : ℕ) (addresses : List StreamAddress) → length (gates_from number addresses) ≡ length addresses
length-gates number [] = refl
length-gates number (x ∷ addresses) = ap suc (length-gates (number + 1) addresses)

-- the gate indexes of the streams before an index
abbrev pub gates_before : List StreamAddress → ℕ → List ℕ
gates_before addresses k = gates_from 0 (take k addresses)

-- whether a gate index is among these
abbrev pub stood : ℕ → List ℕ → Bool
stood gate gates = list_any (λ other. other == gate) gates

-- what is recorded up to index `k`: which gate indexes occurred, of those that a text can give. Of the others, none above `k` occurred. And
-- none occurred twice
pub record HasSeen (addresses : List StreamAddress) (k : ℕ) (seen : List Bool) : Type 0 where
  pub size : length seen ≡ 65536
  pub each : (gate : ℕ) → gate < 65536 → get_or seen gate false ≡ stood gate (gates_before addresses k)
  pub past : (gate : ℕ) → k < gate → 65535 < gate → stood gate (gates_before addresses k) ≡ false
  pub rest : first_again (gates_before addresses k) (gates_from k (drop k addresses)) ≡ first_gate_twice addresses

-- before the first stream none occurred
pub seen_none : (addresses : List StreamAddress) → HasSeen addresses 0 (replicate 65536 false)
seen_none addresses = record {
  size = length-replicate {A = Bool} 65536 false;
  each = λ gate low. get_or-replicate {A = Bool} 65536 gate false false low;
  past = λ gate above high. refl;
  rest = refl;
}

-- a test of one more element
joined : (same any : Bool) → cond same true any ≡ (any || (same || false))
joined true true = refl
joined true false = refl
joined false true = refl
joined false false = refl

module _ (addresses : List StreamAddress) (k : ℕ) (x : StreamAddress) (inside : k < length addresses) (at : x ≡ get_or addresses k x) where
  -- the gate indexes up to the next stream
  one_more : gates_before addresses (k + 1) ≡ gates_before addresses k ++ gate_of k x ∷ []
  one_more =
      ap (gates_from 0) (take_more addresses k x inside ∙ ap (λ (y : StreamAddress). take k addresses ++ y ∷ []) (sym at))
      ∙ gates_after 0 (take k addresses) x
      ∙ ap (λ (n : ℕ). gates_before addresses k ++ gate_of n x ∷ []) (omega (arith, length-take-le k addresses (omega arith)))

  -- the gate indexes from this stream on
  from_here : gates_from k (drop k addresses) ≡ gate_of k x ∷ gates_from (k + 1) (drop (k + 1) addresses)
  from_here =
      ap (gates_from k) (drop-cons addresses k x inside ∙ ap (λ (y : StreamAddress). y ∷ drop (suc k) addresses) (sym at))
      ∙ ap (λ (n : ℕ). gate_of k x ∷ gates_from (k + 1) (drop n addresses)) (sym (add-one k))

  -- reported at this stream: its gate index, if an earlier stream has it
  reported_here : cond (stood (gate_of k x) (gates_before addresses k)) (Some (length (gates_before addresses k) + 1, gate_of k x))
      (first_again (gates_before addresses k ++ gate_of k x ∷ []) (gates_from (k + 1) (drop (k + 1) addresses)))
      ≡ first_again (gates_before addresses k) (gates_from k (drop k addresses))
  reported_here = ap (first_again (gates_before addresses k)) (sym from_here)

  module _ (seen : List Bool) (now : HasSeen addresses k seen) (gate : ℕ) (is : gate ≡ gate_of k x) (range : 65535 < gate → gate ≡ k + 1) where
    -- the record of a gate index says whether it occurred
    pub noted_where_stood : get_or seen gate false ≡ stood gate (gates_before addresses k)
    noted_where_stood = elim (cases_lt gate 65536) [
      | inl low ↦ now.each gate low
      | inr high ↦ get_or_past seen gate false (omega (arith, high, now.size)) ∙ sym (now.past gate (omega (arith, high, range)) (omega (arith, high)))
    ]

    -- a repeated index is reported
    pub reported_twice : get_or seen gate false ≡ true → first_gate_twice addresses ≡ Some (k + 1, gate)
    reported_twice found =
        let here : stood (gate_of k x) (gates_before addresses k) ≡ true = ap (λ (g : ℕ). stood g (gates_before addresses k)) (sym is) ∙ sym noted_where_stood ∙ found in
        let long : length (gates_before addresses k) ≡ k = length-gates 0 (take k addresses) ∙ length-take-le k addresses (omega arith) in
        sym now.rest ∙ sym reported_here
        ∙ ap (λ (b : Bool). cond b (Some (length (gates_before addresses k) + 1, gate_of k x))
        (first_again (gates_before addresses k ++ gate_of k x ∷ []) (gates_from (k + 1) (drop (k + 1) addresses)))) here
        ∙ (λ i. Some (long i + 1, sym is i))

    -- with one more stream the record is still right
    each_more : (other : ℕ) → other < 65536 → get_or (set seen gate true) other false ≡ stood other (gates_before addresses (k + 1))
    each_more other low =
        step ∙ ap (λ (b : Bool). cond (gate == other) true b) (now.each other low) ∙ joined (gate == other) (stood other (gates_before addresses k))
        ∙ sym (list_any-append (λ n. n == other) (gates_before addresses k) (gate ∷ []))
        ∙ ap (λ (g : ℕ). stood other (gates_before addresses k ++ g ∷ [])) is ∙ ap (stood other) (sym one_more)
      where
        step : get_or (set seen gate true) other false ≡ cond (gate == other) true (get_or seen other false)
        step = elim (eqb_tells gate other) [
          | inl same ↦
              get_or-same same.1 ∙ ap (λ (b : Bool). cond b true (get_or seen other false)) (sym same.0)
          | inr different ↦
              get_or-set_other seen gate other true false (λ e. absurd (different.1 (sym e)))
              ∙ ap (λ (b : Bool). cond b true (get_or seen other false)) (sym different.0)
        ]
          where
            get_or-same : gate ≡ other → get_or (set seen gate true) other false ≡ true
            get_or-same e =
                subst (λ (n : ℕ). get_or (set seen gate true) n false ≡ true) e (get_or-set_same seen gate true false (omega (arith, e, low, now.size)))

    -- none of the others above the next index occurred
    past_more : (other : ℕ) → k + 1 < other → 65535 < other → stood other (gates_before addresses (k + 1)) ≡ false
    past_more other above high =
        ap (stood other) (one_more ∙ ap (λ (g : ℕ). gates_before addresses k ++ g ∷ []) (sym is))
        ∙ list_any-append (λ n. n == other) (gates_before addresses k) (gate ∷ [])
        ∙ ap (λ (b : Bool). b || ((gate == other) || false)) (now.past other (omega (arith, above)) high)
        ∙ ap (λ (b : Bool). false || (b || false)) differs
      where
        differs : (gate == other) ≡ false
        differs = elim (eqb_tells gate other) [
          | inl same ↦ absurd (omega (arith, same.1, range, above, high))
          | inr different ↦ different.0
        ]

    -- a gate index that didn't occur is one more
    pub seen_more : get_or seen gate false ≡ false → HasSeen addresses (k + 1) (set seen gate true)
    seen_more fresh =
        let here : stood (gate_of k x) (gates_before addresses k) ≡ false = ap (λ (g : ℕ). stood g (gates_before addresses k)) (sym is) ∙ sym noted_where_stood ∙ fresh in
        record {
          size = length-set seen gate true ∙ now.size;
          each = each_more;
          past = past_more;
          rest =
              ap (λ (gates : List ℕ). first_again gates (gates_from (k + 1) (drop (k + 1) addresses))) one_more
              ∙ ap (λ (b : Bool). cond b (Some (length (gates_before addresses k) + 1, gate_of k x))
              (first_again (gates_before addresses k ++ gate_of k x ∷ []) (gates_from (k + 1) (drop (k + 1) addresses)))) (sym here)
              ∙ reported_here ∙ now.rest;
        }

-- after the last stream nothing is reported
pub reported_none : (addresses : List StreamAddress) (k : ℕ) (seen : List Bool) → HasSeen addresses k seen → length addresses ≤ k →
    first_gate_twice addresses ≡ None
reported_none addresses k seen now past =
    sym now.rest ∙ ap (λ (left : List StreamAddress). first_again (gates_before addresses k) (gates_from k left)) (drop_all k addresses past)
