-- The figures of streams with one more, with one replaced, and with one released.
use Rattle.std.proofs.Common.{◌≡◌, ◌≢◌, ℕ, ◌+◌, ◌<◌, ◌^◌, ◌⊎◌, Bool, true, false, List, [], ◌∷◌, Option, Some, None, MatchOption}
use Rattle.std.proofs.Common.{◌++◌, fold, get_or, max, set, length, refl, sym, ap, ◌∙◌, subst, subst₂}
use Rattle.std.proofs.Common.{arith, inl, inr, length-append}
use Rattle.std.specs.Prelude.{Contains, if◌then◌else◌, zero, suc}
use Rattle.std.specs.BTreeMap.{BTreeMap, UpdatesBy, is_at}
use Rattle.std.specs.Cmp.Lexicographic.{slice_cmp}
use Rattle.std.specs.Map.{lookup}
use Rattle.std.specs.Ordering.{is_eq, nat_cmp}
use Rattle.std.specs.declared.cmp.Ordering.{Ordering}
use Rattle.std.specs.declared.cmp.Ordering.TheVariants.{Equal, Greater, Less}
use Rattle.std.proofs.lemmas.Bool.{both_ways, cases_Bool, cases_lt}
use Rattle.std.proofs.lemmas.List.{get_or-set_same, get_or-set_other, get_or_append_left, get_or_push, length-set}
use Rattle.std.proofs.lemmas.List.Sums.{sum_by_push, sum_by-set}
use Rattle.std.proofs.lemmas.Map.Lookups.{exact_bytes}
use Rattle.std.proofs.lemmas.Option.{none-some, same_Some}
use Rattle.cqf_units.specs.Timing.{cost_of}
use Rattle.cqf_units.specs.declared.reservations.Cycle.{Cycle}
use Rattle.cqf_model.proofs.Texts.{is_text_itself, is_text_same}
use Rattle.cqf_model.specs.Domain.{is_text}
use Rattle.cqf_model.specs.Paces.{is_active}
use Rattle.cqf_model.specs.Table.{cost_on}
use Rattle.cqf_model.specs.declared.topology.Pace.{Pace}
use Rattle.cqf_model.specs.declared.topology.Row.{Row}
use Rattle.cqf_admission.specs.ActiveCycles.{AreLessIn, AreMoreIn, AreNone, HasIn, HasRoomFor, SumsByCycle, most_at, most_of, sum_on}
use Rattle.cqf_lists.proofs.EachBelow.{same_below}
use Rattle.cqf_lists.proofs.Members.{contains_cases, contains_here, contains_later, contains_none, contains_one}
use Rattle.std.proofs.lemmas.List.Elements.{Contains-append_cases, Contains-get_or}
use Rattle.cqf_admission.proofs.ActiveCycleLemmas.{most_of_costs}
use Rattle.cqf_admission.specs.Rows.{IsSummable, ended}
use Rattle.cqf_admission.specs.Holdings.{HaveFigures, IsEnded, IsFree, IsHeldAt, IsHolder, Standing}
use Rattle.cqf_admission.specs.Holdings.{held_cost, held_most, held_most_at, held_part, held_under, released, with_row}
use Rattle.cqf_admission.proofs.HeldNumbers.{numbers_pushed, numbers_released, numbers_stay, without}

-- a withdrawn stream can be summed as before
ended_summable : (links : ℕ) (row : Row) (cycle : Cycle) → IsSummable links row → IsSummable links (ended row cycle)
ended_summable links row cycle is = record {
  countable = record { octets = is.countable.octets; overhead = is.countable.overhead; inside = is.countable.inside; apart = is.countable.apart };
  paced = is.paced;
}

-- two numbers are the same, or not
pub same_or_not : (a b : ℕ) → (a ≡ b) ⊎ (a ≢ b)
same_or_not a b = elim (cases_lt a b) [
  | inl l ↦ inr (λ e. omega (arith, l, e))
  | inr g ↦ elim (cases_lt b a) [
    | inl m ↦ inr (λ e. omega (arith, m, e))
    | inr k ↦ inl (omega (arith, g, k))
  ]
]

-- two names are the same, or not
same_name : (a b : List ℕ) → (a ≡ b) ⊎ (a ≢ b)
same_name a b = elim (cases_Bool (is_text a b)) [
  | inl t ↦ inl (is_text_same a b t)
  | inr f ↦ inr (λ e. both_ways (is_text a b) f (ap (λ (name : List ℕ). is_text name b) e ∙ is_text_itself b))
]

-- in a map by names no other name is equal to this one
alike : (o : Ordering) → is_eq o ≡ true → o ≡ Equal
alike Less e = absurd (both_ways false refl e)
alike Equal e = refl
alike Greater e = absurd (both_ways false refl e)

not_at : (name other : List ℕ) → other ≢ name → is_at (slice_cmp nat_cmp name) other ≡ false
not_at name other differ = elim (cases_Bool (is_eq (slice_cmp nat_cmp name other))) [
  | inl t ↦ absurd (differ (sym (exact_bytes name other (alike (slice_cmp nat_cmp name other) t))))
  | inr f ↦ f
]

-- if only the entry of one name changes, those of all other names stay
pub others_stay : (before after : BTreeMap (List ℕ) ℕ) (name : List ℕ) (found : Option ℕ) →
    UpdatesBy (slice_cmp nat_cmp) (slice_cmp nat_cmp name) before after found → (other : List ℕ) → other ≢ name → held_under after other ≡ held_under before other
others_stay before after name found by other differ = by.2 other (not_at name other differ)

-- the cost of a held stream
part_held : (l cycle : ℕ) (s : Standing) → s.held ≡ true → held_part l cycle s ≡ cost_on s.row l cycle
part_held l cycle s e = ap (λ (b : Bool). if b then cost_on s.row l cycle else 0) e

-- a figure of streams after one is replaced
module _ (rows : List Standing) (number : ℕ) (s : Standing) (inside : number < length rows) where
  here : (d : Standing) → get_or (set rows number s) number d ≡ s
  here d = get_or-set_same rows number s d inside

  elsewhere : (other : ℕ) (d : Standing) → other ≢ number → get_or (set rows number s) other d ≡ get_or rows other d
  elsewhere other d differ = get_or-set_other rows number other s d differ

  as_many : length (set rows number s) ≡ length rows
  as_many = length-set rows number s

-- an element of a list in which one is replaced is the replacement, or an element of the list
contains_from_set : {X : Type 0} (xs : List X) (k : ℕ) (y x : X) → Contains (set xs k y) x → (y ≡ x) ⊎ Contains xs x
contains_from_set [] k y x among = inr among
contains_from_set (z ∷ xs) zero y x among = elim (contains_cases y xs x among) [ inl here ↦ inl here | inr later ↦ inr (contains_later z xs x later) ]
contains_from_set (z ∷ xs) (suc k) y x among = elim (contains_cases z (set xs k y) x among) [
  | inl here ↦ inr (subst (Contains (z ∷ xs)) here (contains_here z xs))
  | inr later ↦ elim (contains_from_set xs k y x later) [ inl same ↦ inl same | inr earlier ↦ inr (contains_later z xs x earlier) ]
]

-- the figures of no streams
pub figures_none : (under : List ℕ → Option ℕ) (held : List ℕ) (sums : SumsByCycle) (links : ℕ) → ((name : List ℕ) → under name ≡ None) → held ≡ [] →
    AreNone sums links → HaveFigures [] under held sums
figures_none under held sums links nobody none are = record {
  along = λ stand among. absurd (contains_none stand among);
  costs = λ l cycle low. are.none l cycle;
  numbers = none;
  few = omega arith;
  leads = λ name number led. absurd (none-some number (sym (nobody name) ∙ led));
  found = λ number d is_held. absurd (omega (arith, is_held.inside));
}

-- the figures are those of the same streams if each of them is the same
pub figures_same : (rows copy : List Standing) (before after : BTreeMap (List ℕ) ℕ) (held numbers : List ℕ) (sums more : SumsByCycle) →
    HaveFigures rows (held_under before) held sums → copy ≡ rows → after.entries ≡ before.entries → numbers ≡ held → more ≡ sums →
    HaveFigures copy (held_under after) numbers more
figures_same rows copy before after held numbers sums more h same entries listed summed =
    subst (λ (rs : List Standing). HaveFigures rs (held_under after) numbers more) (sym same)
    (subst (λ (es : List (List ℕ × ℕ)). HaveFigures rows (λ (name : List ℕ). lookup (is_at (slice_cmp nat_cmp name)) es) numbers more) (sym entries)
    (subst₂ (λ (ns : List ℕ) (ss : SumsByCycle). HaveFigures rows (held_under before) ns ss) (sym listed) (sym summed) h))

module _ (rows : List Standing) (under : List ℕ → Option ℕ) (held : List ℕ) (sums : SumsByCycle) (h : HaveFigures rows under held sums) where
  -- there is room in the sums for what there is room for in the streams
  pub has_room : (row : Row) → ((l cycle : ℕ) → l < sums.links → held_cost rows l cycle + cost_on row l cycle < 2 ^ 64) →
      HasRoomFor sums row.tree.items row.pace (cost_of row.overhead row.octets)
  has_room row fits l cycle low = omega (arith, fits l cycle low, h.costs l cycle low)

  -- the greatest sum is the most that the streams cost, in all cycles and in those of a pace
  pub most_reported : (l : ℕ) → l < sums.links → most_of sums l ≡ held_most rows l
  most_reported l low = most_of_costs sums l (held_cost rows l) (λ cycle below. h.costs l cycle low)

  pub most_reported_at : (l : ℕ) (pace : Pace) (hop_number : ℕ) → l < sums.links → most_at sums l pace hop_number ≡ held_most_at rows l pace hop_number
  most_reported_at l pace hop_number low =
      ap (fold max 0) (same_below (λ cycle. if is_active pace hop_number cycle then sum_on sums l cycle ∷ [] else [])
      (λ cycle. if is_active pace hop_number cycle then held_cost rows l cycle ∷ [] else []) 80
      (λ cycle below. ap (λ (n : ℕ). if is_active pace hop_number cycle then n ∷ [] else []) (h.costs l cycle low)))

  -- the entry of a name is its holder, or the name is free
  pub holder_is : (name : List ℕ) (found : Option ℕ) → found ≡ under name → MatchOption found (IsFree rows name) (IsHolder rows name)
  holder_is name None e = λ number is_held d same. none-some number (e ∙ ap under (sym same) ∙ h.found number d is_held)
  holder_is name (Some number) e = h.leads name number (sym e)

  -- ---- one more stream
  module _ (s : Standing) (after : List Standing) (is_held : s.held ≡ true) (free : IsFree rows s.row.name) (few : length rows + 1 < 2 ^ 32)
      (grown : after ≡ rows ++ s ∷ []) where
    -- the streams from before are unchanged, and the new one comes after them
    there : (number : ℕ) (d : Standing) → number < length rows → get_or after number d ≡ get_or rows number d
    there number d low = ap (λ (xs : List Standing). get_or xs number d) grown ∙ get_or_append_left rows (s ∷ []) d number low

    last : (d : Standing) → get_or after (length rows) d ≡ s
    last d = ap (λ (xs : List Standing). get_or xs (length rows) d) grown ∙ get_or_push rows s d (length rows) refl

    longer : length after ≡ length rows + 1
    longer = ap (λ (xs : List Standing). length xs) grown ∙ length-append rows (s ∷ [])

    old_held : (number : ℕ) → number < length rows → IsHeldAt after number → IsHeldAt rows number
    old_held number low at = record { inside = low; held = λ d. ap (λ (x : Standing). x.held) (sym (there number d low)) ∙ at.held d }

    kept : (number : ℕ) → IsHeldAt rows number → IsHeldAt after number
    kept number at = record {
      inside = omega (arith, longer, at.inside);
      held = λ d. ap (λ (x : Standing). x.held) (there number d at.inside) ∙ at.held d;
    }

    holder_kept : (name : List ℕ) (number : ℕ) → IsHolder rows name number → IsHolder after name number
    holder_kept name number holder = record {
      is_held = kept number holder.is_held;
      named = λ d. ap (λ (x : Standing). x.row.name) (there number d holder.is_held.inside) ∙ holder.named d;
    }

    new_holder : IsHolder after s.row.name (length rows)
    new_holder = record {
      is_held = record { inside = omega (arith, longer); held = λ d. ap (λ (x : Standing). x.held) (last d) ∙ is_held };
      named = λ d. ap (λ (x : Standing). x.row.name) (last d);
    }

    -- names lead as before, and the new stream's name leads to it
    module _ (next : List ℕ → Option ℕ) (own : next s.row.name ≡ Some (length rows))
        (others : (name : List ℕ) → name ≢ s.row.name → next name ≡ under name) where
      leads_more : (name : List ℕ) (number : ℕ) → next name ≡ Some number → IsHolder after name number
      leads_more name number led = elim (same_name name s.row.name) [
        | inl same ↦ (
            let at : length rows ≡ number = same_Some (length rows) number (sym own ∙ ap next (sym same) ∙ led) in
            subst (IsHolder after name) at (subst (λ (n : List ℕ). IsHolder after n (length rows)) (sym same) new_holder))
        | inr differ ↦ holder_kept name number (h.leads name number (sym (others name differ) ∙ led))
      ]

      -- the name of a held stream leads to it
      found_more : (number : ℕ) (d : Standing) → IsHeldAt after number → next (get_or after number d).row.name ≡ Some number
      found_more number d at = elim (cases_lt number (length rows)) [
        | inl low ↦ (
            let old = old_held number low at in
            ap (λ (x : Standing). next x.row.name) (there number d low) ∙ others (get_or rows number d).row.name (free number old d) ∙ h.found number d old)
        | inr high ↦ (
            let is_last : number ≡ length rows = omega (arith, high, at.inside, longer) in
            ap (λ (n : ℕ). next (get_or after n d).row.name) is_last ∙ ap (λ (x : Standing). next x.row.name) (last d) ∙ own
            ∙ ap (λ (n : ℕ). Some n) (sym is_last))
      ]

      pub figures_more : (numbers : List ℕ) (more : SumsByCycle) → numbers ≡ held ++ length rows ∷ [] → IsSummable sums.links s.row →
          AreMoreIn sums s.row.tree.items s.row.pace (cost_of s.row.overhead s.row.octets) more → HaveFigures after next numbers more
      figures_more numbers more listed summable by = record {
        along = λ stand among. subst (λ (n : ℕ). IsSummable n stand.row) (sym by.links)
            (elim (Contains-append_cases rows (s ∷ []) stand (subst (λ (xs : List Standing). Contains xs stand) grown among)) [
              | inl earlier ↦ h.along stand earlier
              | inr new ↦ subst (λ (x : Standing). IsSummable sums.links x.row) (contains_one s stand new) summable
            ]);
        costs = λ l cycle shorter.
            let low : l < sums.links = omega (arith, shorter, by.links) in
            let total : held_cost after l cycle ≡ held_cost rows l cycle + held_part l cycle s =
            ap (λ (xs : List Standing). held_cost xs l cycle) grown ∙ sum_by_push (held_part l cycle) rows s in
            omega (arith, total, part_held l cycle s is_held, by.each l cycle low, h.costs l cycle low);
        numbers = listed ∙ ap (λ (ns : List ℕ). ns ++ length rows ∷ []) h.numbers ∙ sym (numbers_pushed rows after s is_held grown);
        few = omega (arith, longer, few);
        leads = leads_more;
        found = found_more;
      }

  -- ---- one of the streams
  module _ (number : ℕ) (s : Standing) (inside : number < length rows) (is : s ≡ get_or rows number s) where
    was : (d : Standing) → get_or rows number d ≡ s
    was d = lists_agree rows number inside d ∙ sym is
      where
        lists_agree : (xs : List Standing) (k : ℕ) → k < length xs → (d : Standing) → get_or xs k d ≡ get_or xs k s
        lists_agree [] k low d = absurd (omega (arith, low))
        lists_agree (x ∷ xs) zero low d = refl
        lists_agree (x ∷ xs) (suc k) low d = lists_agree xs k (omega (arith, low)) d

    -- a replacement with the same links has its links among the domain's
    pub own_along : IsSummable sums.links s.row
    own_along = h.along s (subst (Contains rows) (sym is) (Contains-get_or rows number s inside))

    stays_along : (stand other : Standing) → IsSummable sums.links other.row → Contains (set rows number other) stand → IsSummable sums.links stand.row
    stays_along stand other own among = elim (contains_from_set rows number other stand among) [
      | inl same ↦ subst (λ (x : Standing). IsSummable sums.links x.row) same own
      | inr earlier ↦ h.along stand earlier
    ]

    -- ---- withdrawn from a cycle on
    module _ (cycle : Cycle) where
      -- each stream is held under the same name as before
      stays : (other : ℕ) (d : Standing) → ((get_or (set rows number (with_row s (ended s.row cycle))) other d).held ≡ (get_or rows other d).held)
          × ((get_or (set rows number (with_row s (ended s.row cycle))) other d).row.name ≡ (get_or rows other d).row.name)
      stays other d = elim (same_or_not other number) [
        | inl same ↦ (
            let this : get_or (set rows number (with_row s (ended s.row cycle))) other d ≡ with_row s (ended s.row cycle) =
            ap (λ (n : ℕ). get_or (set rows number (with_row s (ended s.row cycle))) n d) same ∙ here rows number (with_row s (ended s.row cycle)) inside d in
            let old : get_or rows other d ≡ s = ap (λ (n : ℕ). get_or rows n d) same ∙ was d in (
              ap (λ (x : Standing). x.held) this ∙ sym (ap (λ (x : Standing). x.held) old),
              ap (λ (x : Standing). x.row.name) this ∙ sym (ap (λ (x : Standing). x.row.name) old),
            ))
        | inr differ ↦ (
            let this = elsewhere rows number (with_row s (ended s.row cycle)) inside other d differ in
            (ap (λ (x : Standing). x.held) this, ap (λ (x : Standing). x.row.name) this))
      ]

      figures_from : HaveFigures (set rows number (with_row s (ended s.row cycle))) under held sums
      figures_from = record {
        along = λ stand among. stays_along stand (with_row s (ended s.row cycle)) (ended_summable sums.links s.row cycle own_along) among;
        costs = λ l active_cycle low.
            let total = sum_by-set (held_part l active_cycle) rows number (with_row s (ended s.row cycle)) s inside in
            let same : held_part l active_cycle (get_or rows number s) ≡ held_part l active_cycle (with_row s (ended s.row cycle)) = ap (held_part l active_cycle) (was s) in
            omega (arith, total, same, h.costs l active_cycle low);
        numbers = h.numbers ∙ sym (numbers_stay 0 rows number (with_row s (ended s.row cycle)) inside
            (sym (ap (λ (x : Standing). x.held) (was (with_row s (ended s.row cycle))))));
        few = omega (arith, h.few, as_many rows number (with_row s (ended s.row cycle)) inside);
        leads = λ name other led.
            let holder = h.leads name other led in
            record {
              is_held = record {
                inside = omega (arith, holder.is_held.inside, as_many rows number (with_row s (ended s.row cycle)) inside);
                held = λ d. (stays other d).0 ∙ holder.is_held.held d;
              };
              named = λ d. (stays other d).1 ∙ holder.named d;
            };
        found = λ other d at.
            let old : IsHeldAt rows other = record {
              inside = omega (arith, at.inside, as_many rows number (with_row s (ended s.row cycle)) inside);
              held = λ e. sym (stays other e).0 ∙ at.held e;
            } in
            ap under (stays other d).1 ∙ h.found other d old;
      }

    pub figures_ended : (row : Row) → IsEnded s.row row → HaveFigures (set rows number (with_row s row)) under held sums
    figures_ended row ends =
        subst (λ (r : Row). HaveFigures (set rows number (with_row s r)) under held sums) (sym ends.is) (figures_from ends.cycle)

    -- ---- one stream released
    module _ (is_held : s.held ≡ true) where
      held_here : IsHeldAt rows number
      held_here = record { inside = inside; held = λ d. ap (λ (x : Standing). x.held) (was d) ∙ is_held }

      -- the stream's name leads to it
      led_here : under s.row.name ≡ Some number
      led_here = sym (ap (λ (x : Standing). under x.row.name) (was s)) ∙ h.found number s held_here

      -- the stream's part is in the sums
      pub goes_within : HasIn sums s.row.tree.items s.row.pace (cost_of s.row.overhead s.row.octets)
      goes_within l cycle low =
          let total = sum_by-set (held_part l cycle) rows number (released s) s inside in
          let part : held_part l cycle (get_or rows number s) ≡ cost_on s.row l cycle = ap (held_part l cycle) (was s) ∙ part_held l cycle s is_held in
          omega (arith, total, part, h.costs l cycle low)

      -- a stream that is still held is another one
      still : (other : ℕ) → IsHeldAt (set rows number (released s)) other → (other ≢ number) × IsHeldAt rows other
      still other at =
          let differ : other ≢ number = λ same.
          both_ways (released s).held refl
          (sym (ap (λ (x : Standing). x.held) (ap (λ (n : ℕ). get_or (set rows number (released s)) n s) same ∙ here rows number (released s) inside s))
          ∙ at.held s) in (
            differ,
            record {
              inside = omega (arith, at.inside, as_many rows number (released s) inside);
              held = λ d. ap (λ (x : Standing). x.held) (sym (elsewhere rows number (released s) inside other d differ)) ∙ at.held d;
            },
          )

      module _ (next : List ℕ → Option ℕ) (own : next s.row.name ≡ None) (others : (name : List ℕ) → name ≢ s.row.name → next name ≡ under name) where
        leads_less : (name : List ℕ) (k : ℕ) → next name ≡ Some k → IsHolder (set rows number (released s)) name k
        leads_less name k led = elim (same_name name s.row.name) [
          | inl same ↦ absurd (none-some k (sym own ∙ ap next (sym same) ∙ led))
          | inr differ ↦ (
              let holder = h.leads name k (sym (others name differ) ∙ led) in
              let other : k ≢ number = λ e.
              differ (sym (holder.named s) ∙ ap (λ (n : ℕ). (get_or rows n s).row.name) e ∙ ap (λ (x : Standing). x.row.name) (was s)) in
              record {
                is_held = record {
                  inside = omega (arith, holder.is_held.inside, as_many rows number (released s) inside);
                  held = λ d. ap (λ (x : Standing). x.held) (elsewhere rows number (released s) inside k d other) ∙ holder.is_held.held d;
                };
                named = λ d. ap (λ (x : Standing). x.row.name) (elsewhere rows number (released s) inside k d other) ∙ holder.named d;
              })
        ]

        found_less : (other : ℕ) (d : Standing) → IsHeldAt (set rows number (released s)) other →
            next (get_or (set rows number (released s)) other d).row.name ≡ Some other
        found_less other d at =
            let was_held = still other at in
            let old = h.found other d was_held.1 in
            let apart : (get_or rows other d).row.name ≢ s.row.name = λ e. was_held.0 (same_Some other number (sym old ∙ ap under e ∙ led_here)) in
            ap (λ (x : Standing). next x.row.name) (elsewhere rows number (released s) inside other d was_held.0)
            ∙ others (get_or rows other d).row.name apart ∙ old

        pub figures_less : (numbers : List ℕ) (less : SumsByCycle) → numbers ≡ without number held →
            AreLessIn sums s.row.tree.items s.row.pace (cost_of s.row.overhead s.row.octets) less → HaveFigures (set rows number (released s)) next numbers less
        figures_less numbers less left by = record {
          along = λ stand among. subst (λ (n : ℕ). IsSummable n stand.row) (sym by.links) (stays_along stand (released s) own_along among);
          costs = λ l cycle shorter.
              let low : l < sums.links = omega (arith, shorter, by.links) in
              let total = sum_by-set (held_part l cycle) rows number (released s) s inside in
              let part : held_part l cycle (get_or rows number s) ≡ cost_on s.row l cycle = ap (held_part l cycle) (was s) ∙ part_held l cycle s is_held in
              omega (arith, total, part, by.each l cycle low, h.costs l cycle low);
          numbers = left ∙ ap (without number) h.numbers ∙ sym (numbers_released rows number s inside);
          few = omega (arith, h.few, as_many rows number (released s) inside);
          leads = leads_less;
          found = found_less;
        }
