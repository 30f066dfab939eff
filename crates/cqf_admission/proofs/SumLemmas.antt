-- Sums by link, with one more link.
use Rattle.std.proofs.Common.{◌≡◌, ◌≢◌, ℕ, ◌+◌, ◌<◌, ◌^◌, ◌∙◌, ◌==◌, ◌||◌, Bool, true, List, length, get_or, set, take, ap, arith, refl, subst, subst₂, sym, false, inl, inr}
use Rattle.std.specs.Prelude.{None, All, AllPairs, if◌then◌else◌}
use Rattle.std.specs.List.{list_any}
use Rattle.std.proofs.lemmas.Bool.{cases_eq, eq-eqb, ne_eqb}
use Rattle.std.proofs.lemmas.List.{get_or-map, length-map, get_or-set_other, get_or-set_same, get_or-take, get_or_default, length-set, length-take-le}
use Rattle.std.proofs.lemmas.List.Elements.{All-get_or}
use Rattle.std.proofs.lemmas.List.Folds.{list_any_at, list_any_more, list_any_none}
use Rattle.cqf_model.specs.declared.topology.Hop.{Hop}
use Rattle.cqf_model.specs.Table.{links_in}
use Rattle.cqf_admission.specs.Sums.{AreMoreOn, HaveRoomOn, part_on}

-- the default hop for an index without one
abbrev pub no_hop : Hop
no_hop = record { link = 0; hop_number = 0; from = None }

-- the link of a hop has the same index among the links
pub link_at : (hops : List Hop) (k : ℕ) (none : Hop) → k < length hops → (k < length (links_in hops)) × ((get_or hops k none).link ≡ get_or (links_in hops) k 0)
link_at hops k none inside =
    (omega (arith, inside, length-map hops (λ (hop : Hop). hop.link)), sym (get_or-map (λ (hop : Hop). hop.link) hops k none 0 inside))

-- or with `false`
or_neither : (b : Bool) → (b || false) ≡ b
or_neither true = refl
or_neither false = refl

-- a number, or 0, by a test
abbrev part_by : ℕ → Bool → ℕ
part_by number b = if b then number else 0

module _ (links : List ℕ) (i : ℕ) (apart : AllPairs (λ (a b : ℕ). a ≢ b) links) (inside : i < length links) where
  -- no two links are the same, so the next one isn't among those before it
  new_link : list_any (λ k. k == get_or links i 0) (take i links) ≡ false
  new_link =
      let long : length (take i links) ≡ i = length-take-le i links (omega (arith, inside)) in
      list_any_none (λ (k : ℕ). k == get_or links i 0) (take i links) (λ k d within.
      let before : k < i = omega (arith, within, long) in
      let same : get_or (take i links) k d ≡ get_or links k d = get_or-take i links k d before in
      let next : get_or links i d ≡ get_or links i 0 = get_or_default links i d 0 inside in
      ne_eqb (get_or (take i links) k d) (get_or links i 0) (λ is. apart k i d before inside (sym same ∙ is ∙ sym next)))

  -- what the link adds to its sum; it adds nothing to others
  here : (number : ℕ) → part_on (take i links) number (get_or links i 0) ≡ 0
  here number = ap (part_by number) new_link

  here_more : (number : ℕ) → part_on (take (i + 1) links) number (get_or links i 0) ≡ number
  here_more number =
      ap (part_by number) (list_any_more (λ k. k == get_or links i 0) links i 0 inside
      ∙ ap (λ b. b || (get_or links i 0 == get_or links i 0)) new_link ∙ eq-eqb (get_or links i 0) (get_or links i 0) refl)

  in_all : (number : ℕ) → part_on links number (get_or links i 0) ≡ number
  in_all number = ap (part_by number) (list_any_at (λ k. k == get_or links i 0) links i 0 inside (eq-eqb (get_or links i 0) (get_or links i 0) refl))

  there_more : (number l : ℕ) → get_or links i 0 ≢ l → part_on (take (i + 1) links) number l ≡ part_on (take i links) number l
  there_more number l other =
      ap (part_by number) (list_any_more (λ k. k == l) links i 0 inside
      ∙ ap (λ b. list_any (λ k. k == l) (take i links) || b) (ne_eqb (get_or links i 0) l other) ∙ or_neither (list_any (λ k. k == l) (take i links)))

  -- a number is added to the sum of the next link
  pub more_next : (sums now : List ℕ) (number : ℕ) → get_or links i 0 < length sums → AreMoreOn sums (take i links) number now →
      AreMoreOn sums (take (i + 1) links) number (set now (get_or links i 0) (get_or now (get_or links i 0) 0 + number))
  more_next sums now number low so_far = record {
    as_many = length-set now index (get_or now index 0 + number) ∙ so_far.as_many;
    each = λ l within. elim (cases_eq index l) [
      | inl same ↦ subst (λ k. get_or (set now index (get_or now index 0 + number)) k 0 ≡ get_or sums k 0 + part_on (take (i + 1) links) number k) same
          (omega (arith, get_or-set_same now index (get_or now index 0 + number) 0 (omega (arith, low, so_far.as_many)), so_far.each index low, here number, here_more number))
      | inr other ↦
          let kept = get_or-set_other now index l (get_or now index 0 + number) 0 (λ is. other (sym is)) in
          omega (arith, kept, so_far.each l within, there_more number l other)
    ];
  } where
    index : ℕ
    index = get_or links i 0

  -- there is still room for it, as there was
  pub room_next : (sums now : List ℕ) (number : ℕ) → get_or links i 0 < length sums → HaveRoomOn sums links number → AreMoreOn sums (take i links) number now →
      get_or now (get_or links i 0) 0 + number < 2 ^ 64
  room_next sums now number low room so_far =
      omega (arith, so_far.each (get_or links i 0) low, here number, in_all number, room (get_or links i 0) low)

  -- the same for the next link as a loop reads it, and its sum
  pub room_step : (sums now : List ℕ) (number index here : ℕ) → index ≡ get_or links i 0 → All (λ (l : ℕ). l < length sums) links → here ≡ get_or now index here →
      HaveRoomOn sums links number → AreMoreOn sums (take i links) number now → (index < length now) × (here + number < 2 ^ 64)
  room_step sums now number index here same all is room so_far =
      let low : get_or links i 0 < length sums = All-get_or (λ (l : ℕ). l < length sums) links i 0 inside all in
      let within : index < length now = omega (arith, low, same, so_far.as_many) in
      let fits : get_or now index 0 + number < 2 ^ 64 =
      subst (λ (p : ℕ). get_or now p 0 + number < 2 ^ 64) (sym same) (room_next sums now number low room so_far) in
      (within, omega (arith, fits, is, get_or_default now index here 0 within))

  pub more_step : (sums now : List ℕ) (number index here : ℕ) → index ≡ get_or links i 0 → All (λ (l : ℕ). l < length sums) links → here ≡ get_or now index here →
      AreMoreOn sums (take i links) number now → AreMoreOn sums (take (i + 1) links) number (set now index (here + number))
  more_step sums now number index here same all is so_far =
      let low : get_or links i 0 < length sums = All-get_or (λ (l : ℕ). l < length sums) links i 0 inside all in
      let within : index < length now = omega (arith, low, same, so_far.as_many) in
      let value : here ≡ get_or now (get_or links i 0) 0 = is ∙ get_or_default now index here 0 within ∙ ap (λ (p : ℕ). get_or now p 0) same in
      subst₂ (λ (p n : ℕ). AreMoreOn sums (take (i + 1) links) number (set now p (n + number))) (sym same) (sym value) (more_next sums now number low so_far)

-- before the first link the sums are unchanged
pub more_none : (sums links : List ℕ) (number : ℕ) → AreMoreOn sums (take 0 links) number sums
more_none sums links number = record { as_many = refl; each = λ l within. omega arith }
