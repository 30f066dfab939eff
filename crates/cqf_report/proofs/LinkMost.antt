-- The most octets that a link has in one cycle, batch by batch.
use Rattle.std.proofs.Common.{◌≡◌, ℕ, zero, suc, ◌+◌, ◌-◌, ◌<◌, ◌==◌, ◌&&◌, ◌++◌, ◌∷◌, [], Bool, true, false, List, length, max, inl, inr}
use Rattle.std.proofs.Common.{Contains, sum_by, get_or, replicate, if◌then◌else◌, refl, sym, ap, ◌∙◌, subst, arith, length-append, eq-eqb}
use Rattle.std.specs.List.{IsChunkByPrefix}
use Rattle.std.specs.Prelude.{slice_index, slice_set}
use Rattle.std.proofs.lemmas.Bool.{and_parts, cases_eq, cases_lt, eqb-true, false≢true}
use Rattle.std.proofs.lemmas.List.{get_or_append_left, get_or-append-add, get_or_default, get_or-replicate, get_or-set_other}
use Rattle.std.proofs.lemmas.List.{get_or-set_same, length-replicate, length-set}
use Rattle.std.proofs.lemmas.List.Sums.{sum_by-append, sum_by-cons}
use Rattle.cqf_lists.proofs.Members.{contains_here, contains_later}
use Rattle.cqf_lists.proofs.Pairs.{pairs_second}
use Rattle.cqf_lists.proofs.Sums.{sum_none}
use Rattle.cqf_model.specs.declared.frames.Started.{Started}
use Rattle.cqf_laws_coverage.specs.InOneCycle.{IsMost, most_on, octets_summed}
use Rattle.cqf_laws_coverage.proofs.InOneCycle.{most_is_most, most_is_one}
use Rattle.cqf_report.specs.LinkSums.{AreSumsInOrder, IsBefore, are_of_one_batch}

-- a start on another link or in another cycle doesn't count
counts_not : (on in_cycle : Bool) (octets : ℕ) → (on ≡ true → in_cycle ≡ true → ⊥) → (if on && in_cycle then octets else 0) ≡ 0
counts_not true true octets apart = absurd (apart refl refl)
counts_not true false octets apart = refl
counts_not false in_cycle octets apart = refl

-- the octets of starts in two lists end to end
octets_in-append : (link cycle : ℕ) (xs ys : List Started) → octets_summed link cycle (xs ++ ys) ≡ octets_summed link cycle xs + octets_summed link cycle ys
octets_in-append link cycle xs ys =
    sum_by-append (λ (start : Started). if (start.link == link) && (start.cycle.0 == cycle) then start.octets else 0) xs ys

-- starts that aren't on a link in a cycle have no octets there
octets_in-none : (link cycle : ℕ) (starts : List Started)
    → ((start : Started) → Contains starts start → start.link ≡ link → start.cycle.0 ≡ cycle → ⊥) → octets_summed link cycle starts ≡ 0
octets_in-none link cycle starts apart =
    sum_none (λ (start : Started). if (start.link == link) && (start.cycle.0 == cycle) then start.octets else 0) starts
    (λ start among. counts_not (start.link == link) (start.cycle.0 == cycle) start.octets
    (λ on in_cycle. apart start among (eqb-true start.link link on) (eqb-true start.cycle.0 cycle in_cycle)))

-- a start on the link in the cycle counts
counts_whole : (on in_cycle : Bool) (octets : ℕ) → on ≡ true → in_cycle ≡ true → (if on && in_cycle then octets else 0) ≡ octets
counts_whole on in_cycle octets is_on is_in = rw (is_on, is_in) refl

-- starts that are all on one link in one cycle have all their octets there
octets_in-all : (link cycle : ℕ) (starts : List Started)
    → ((start : Started) → Contains starts start → (start.link ≡ link) × (start.cycle.0 ≡ cycle))
    → octets_summed link cycle starts ≡ sum_by (λ (start : Started). start.octets) starts
octets_in-all link cycle [] same = refl
octets_in-all link cycle (start ∷ starts) same =
    let here = same start (contains_here start starts) in
    let rest : octets_summed link cycle starts ≡ sum_by (λ (start : Started). start.octets) starts =
    octets_in-all link cycle starts (λ other among. same other (contains_later start starts other among)) in
    let one = counts_whole (start.link == link) (start.cycle.0 == cycle) start.octets (eq-eqb start.link link here.0) (eq-eqb start.cycle.0 cycle here.1) in
    omega (
      arith,
      sum_by-cons (λ (start : Started). if (start.link == link) && (start.cycle.0 == cycle) then start.octets else 0) start starts,
      sum_by-cons (λ (start : Started). start.octets) start starts,
      one,
      rest,
    )

module _ (link cycle : ℕ) (batch later : List Started)
    (same : (start : Started) → Contains batch start → (start.link ≡ link) × (start.cycle.0 ≡ cycle))
    (apart : (start : Started) → Contains later start → start.link ≡ link → start.cycle.0 ≡ cycle → ⊥) where
  -- a batch before starts of other batches is all that its link has in its cycle
  octets_here : octets_summed link cycle (batch ++ later) ≡ sum_by (λ (start : Started). start.octets) batch
  octets_here = omega (arith, octets_in-append link cycle batch later, octets_in-all link cycle batch same, octets_in-none link cycle later apart)

  -- it adds nothing to other links or cycles
  octets_elsewhere : (other in_cycle : ℕ) → (other ≡ link → in_cycle ≡ cycle → ⊥) → octets_summed other in_cycle (batch ++ later)
      ≡ octets_summed other in_cycle later
  octets_elsewhere other in_cycle elsewhere =
      let none : octets_summed other in_cycle batch ≡ 0 = octets_in-none other in_cycle batch (λ start among on_other in_other.
      let index = same start among in elsewhere (sym on_other ∙ index.0) (sym in_other ∙ index.1)) in
      omega (arith, octets_in-append other in_cycle batch later, none)

  -- so the most of its link is the batch's octets, or the most of those after it
  most_here : IsMost link (batch ++ later) (max (sum_by (λ (start : Started). start.octets) batch) (most_on link later))
  most_here =
      let octets = sum_by (λ (start : Started). start.octets) batch in
      let following = most_is_most link later in
      record {
        no_more = λ c. elim (cases_eq c cycle) [
          | inl e ↦
              let here : octets_summed link c (batch ++ later) ≡ octets = subst (λ (n : ℕ). octets_summed link n (batch ++ later) ≡ octets)
              (sym e) octets_here in
              omega (arith, here)
          | inr differ ↦ omega (arith, octets_elsewhere link c (λ on in_cycle. differ in_cycle), following.no_more c)
        ];
        reached = elim (cases_lt octets (most_on link later)) [
          | inr more ↦ inr (cycle, omega (arith, octets_here, more))
          | inl less ↦ elim following.reached [
            | inl none ↦ absurd (omega (arith, none, less))
            | inr found ↦ elim (cases_eq found.0 cycle) [
              | inl e ↦
                  let none : octets_summed link found.0 later ≡ 0 = subst (λ (n : ℕ). octets_summed link n later ≡ 0) (sym e)
                  (octets_in-none link cycle later apart) in
                  absurd (omega (arith, none, found.1, less))
              | inr differ ↦ inr (found.0, omega (arith, octets_elsewhere link found.0 (λ on in_cycle. differ in_cycle), found.1, less))
            ]
          ]
        ];
      }

  -- the most of another link is that of those after the batch
  most_elsewhere : (other : ℕ) → (other ≡ link → ⊥) → IsMost other (batch ++ later) (most_on other later)
  most_elsewhere other differ =
      let following = most_is_most other later in
      record {
        no_more = λ c. omega (arith, octets_elsewhere other c (λ on in_cycle. differ on), following.no_more c);
        reached = elim following.reached [
          | inl none ↦ inl none
          | inr found ↦ inr (found.0, omega (arith, octets_elsewhere other found.0 (λ on in_cycle. differ on), found.1))
        ];
      }

-- two starts on the same link in the same cycle are of the same batch
one_batch : (first second : Started) → first.link ≡ second.link → first.cycle.0 ≡ second.cycle.0 → are_of_one_batch first second ≡ true
one_batch first second on in_cycle = rw (eq-eqb first.link second.link on, eq-eqb first.cycle.0 second.cycle.0 in_cycle) refl

-- a start between two starts of a batch is of that batch
between : (first middle last : Started) → IsBefore first middle → IsBefore middle last → last.link ≡ first.link → last.cycle.0 ≡ first.cycle.0 →
    (first.link ≡ middle.link) × (first.cycle.0 ≡ middle.cycle.0)
between first middle last (inl early) (inl late) on in_cycle = absurd (omega (arith, early, late, in_cycle))
between first middle last (inl early) (inr late) on in_cycle = absurd (omega (arith, early, late.0, in_cycle))
between first middle last (inr early) (inl late) on in_cycle = absurd (omega (arith, early.0, late, in_cycle))
between first middle last (inr early) (inr late) on in_cycle = (omega (arith, early.1, late.1, on), early.0)

module _ (rest batch later : List Started) (d : Started) (parts : rest ≡ batch ++ later) (some : 0 < length batch) (ordered : AreSumsInOrder rest)
    (prefix : IsChunkByPrefix are_of_one_batch rest (length batch)) where
  -- an element of the batch in the list
  at_batch : (k : ℕ) → k < length batch → get_or rest k d ≡ get_or batch k d
  at_batch k inside = ap (λ (xs : List Started). get_or xs k d) parts ∙ get_or_append_left batch later d k inside

  -- an element after the batch in the list
  at_later : (k : ℕ) → get_or rest (length batch + k) d ≡ get_or later k d
  at_later k = ap (λ (xs : List Started). get_or xs (length batch + k) d) parts ∙ get_or-append-add batch later k d

  -- each start of the batch has the link and the cycle of the first
  as_first : (k : ℕ) → k < length batch → ((get_or batch k d).link ≡ (get_or batch 0 d).link) × ((get_or batch k d).cycle.0 ≡ (get_or batch 0 d).cycle.0)
  as_first zero inside = (refl, refl)
  as_first (suc k) inside =
      let before = as_first k (omega (arith, inside)) in
      let adjacent : are_of_one_batch (get_or rest k d) (get_or rest (k + 1) d) ≡ true = prefix.0 k d (omega (arith, inside)) in
      let here : get_or rest k d ≡ get_or batch k d = at_batch k (omega (arith, inside)) in
      let one_more : k + 1 ≡ suc k = omega arith in
      let next : get_or rest (k + 1) d ≡ get_or batch (suc k) d = ap (λ (n : ℕ). get_or rest n d) one_more ∙ at_batch (suc k) inside in
      let joined : are_of_one_batch (get_or batch k d) (get_or batch (suc k) d) ≡ true = rw (here, next) at adjacent in
      let both = and_parts ((get_or batch k d).link == (get_or batch (suc k) d).link) ((get_or batch k d).cycle.0 == (get_or batch (suc k) d).cycle.0) joined
      in (
        sym (eqb-true (get_or batch k d).link (get_or batch (suc k) d).link both.0) ∙ before.0,
        sym (eqb-true (get_or batch k d).cycle.0 (get_or batch (suc k) d).cycle.0 both.1) ∙ before.1,
      )

  -- the same for any element of the batch
  pub of_batch : (start : Started) → Contains batch start → (start.link ≡ (get_or batch 0 d).link) × (start.cycle.0 ≡ (get_or batch 0 d).cycle.0)
  of_batch start among =
      let is : get_or batch among.0 d ≡ start = get_or_default batch among.0 d start among.1 ∙ among.2 in
      let index = as_first among.0 among.1 in
      (ap (λ (s : Started). s.link) (sym is) ∙ index.0, ap (λ (s : Started). s.cycle.0) (sym is) ∙ index.1)

  -- the start after the batch is of another batch
  next_differs : length batch < length rest → (get_or batch 0 d).link ≡ (get_or later 0 d).link →
      (get_or batch 0 d).cycle.0 ≡ (get_or later 0 d).cycle.0 → ⊥
  next_differs more on in_cycle =
      let last : get_or rest (length batch - 1) d ≡ get_or batch (length batch - 1) d = at_batch (length batch - 1) (omega (arith, some)) in
      let next : get_or rest (length batch) d ≡ get_or later 0 d = ap (λ (k : ℕ). get_or rest k d) (omega arith) ∙ at_later 0 in
      let index = as_first (length batch - 1) (omega (arith, some)) in
      let parted : are_of_one_batch (get_or batch (length batch - 1) d) (get_or later 0 d) ≡ false = rw (last, next) at (prefix.1 more d) in
      false≢true (sym parted ∙ one_batch (get_or batch (length batch - 1) d) (get_or later 0 d) (index.0 ∙ on) (index.1 ∙ in_cycle))

  -- so is each later one
  pub after_batch : (start : Started) → Contains later start → start.link ≡ (get_or batch 0 d).link → start.cycle.0 ≡ (get_or batch 0 d).cycle.0 → ⊥
  after_batch start (zero, inside, is) on in_cycle =
      let whole : length rest ≡ length batch + length later = ap length parts ∙ length-append batch later in
      let next : get_or later 0 d ≡ start = get_or_default later 0 d start inside ∙ is in
      next_differs (omega (arith, whole, inside)) (sym on ∙ ap (λ (s : Started). s.link) (sym next)) (sym in_cycle ∙ ap (λ (s : Started). s.cycle.0) (sym next))
  after_batch start (suc k, inside, is) on in_cycle =
      let whole : length rest ≡ length batch + length later = ap length parts ∙ length-append batch later in
      let first : get_or rest 0 d ≡ get_or batch 0 d = at_batch 0 some in
      let next : get_or rest (length batch + 0) d ≡ get_or later 0 d = at_later 0 in
      let at : get_or rest (length batch + suc k) d ≡ start = at_later (suc k) ∙ get_or_default later (suc k) d start inside ∙ is in
      let before : IsBefore (get_or batch 0 d) (get_or later 0 d) =
      rw (first, next) at (ordered 0 (length batch + 0) d (omega (arith, some)) (omega (arith, whole, inside))) in
      let after : IsBefore (get_or later 0 d) start =
      rw (next, at) at (ordered (length batch + 0) (length batch + suc k) d (omega arith) (omega (arith, whole, inside))) in
      let index = between (get_or batch 0 d) (get_or later 0 d) start before after on in_cycle in
      next_differs (omega (arith, whole, inside)) index.0 index.1

-- for each link: its most so far and the most of the rest give the most of all
pub record AreMostSoFar (starts rest : List Started) (most : List ℕ) : Type 0 where
  pub each_link : length most ≡ 65536
  pub ordered : AreSumsInOrder rest
  pub with_rest : (link : ℕ) → link < 65536 → max (slice_index most link) (most_on link rest) ≡ most_on link starts

-- before the first batch each link has 0
pub none_most : (starts : List Started) (most : List ℕ) → AreSumsInOrder starts → most ≡ replicate 65536 0 → AreMostSoFar starts starts most
none_most starts most ordered is = record {
  each_link = ap length is ∙ length-replicate {A = ℕ} 65536 0;
  ordered = ordered;
  with_rest = λ link below. omega (arith, ap (λ (xs : List ℕ). slice_index xs link) is ∙ get_or-replicate 65536 link 0 0 below);
}

-- after the last batch each link has the most of all
pub all_most : (starts rest : List Started) (most : List ℕ) → AreMostSoFar starts rest most → length rest ≡ 0 → (link : ℕ) → link < 65536 →
    slice_index most link ≡ most_on link starts
all_most starts [] most so_far ended link below = omega (arith, so_far.with_rest link below)
all_most starts (first ∷ rest) most so_far ended link below = absurd (omega (arith, ended))

-- one more batch
pub more_most : (starts rest batch later : List Started) (most : List ℕ) (d : Started) (octets : ℕ) → rest ≡ batch ++ later → 0 < length batch →
    IsChunkByPrefix are_of_one_batch rest (length batch) → octets ≡ sum_by (λ (start : Started). start.octets) batch → AreMostSoFar starts rest most →
    AreMostSoFar starts later (slice_set most (get_or batch 0 d).link (max (slice_index most (get_or batch 0 d).link) octets))
more_most starts rest batch later most d octets parts some prefix sums before =
    let link = (get_or batch 0 d).link in
    let cycle = (get_or batch 0 d).cycle.0 in
    let same = of_batch rest batch later d parts some before.ordered prefix in
    let apart = after_batch rest batch later d parts some before.ordered prefix in
    record {
      each_link = length-set most link (max (slice_index most link) octets) ∙ before.each_link;
      ordered = pairs_second IsBefore batch later (subst (λ (xs : List Started). AreSumsInOrder xs) parts before.ordered);
      with_rest = λ k below. elim (cases_eq k link) [
        | inl e ↦
            let raised : slice_index (slice_set most link (max (slice_index most link) octets)) k ≡ max (slice_index most link) octets =
            ap (slice_index (slice_set most link (max (slice_index most link) octets))) e
            ∙ get_or-set_same most link (max (slice_index most link) octets) 0 (omega (arith, before.each_link, below, e)) in
            let here : most_on link rest ≡ max (sum_by (λ (start : Started). start.octets) batch) (most_on link later) =
            ap (most_on link) parts
            ∙ most_is_one link (batch ++ later) (most_on link (batch ++ later)) (max (sum_by (λ (start : Started). start.octets) batch) (most_on link later))
            (most_is_most link (batch ++ later)) (most_here link cycle batch later same apart) in
            let following : most_on k later ≡ most_on link later = ap (λ (l : ℕ). most_on l later) e in
            let all : most_on k starts ≡ most_on link starts = ap (λ (l : ℕ). most_on l starts) e in
            let so_far : max (slice_index most link) (most_on link rest) ≡ most_on link starts = before.with_rest link (omega (arith, below, e)) in
            omega (arith, raised, here, following, all, so_far, sums)
        | inr differ ↦
            let kept : slice_index (slice_set most link (max (slice_index most link) octets)) k ≡ slice_index most k =
            get_or-set_other most link k (max (slice_index most link) octets) 0 differ in
            let here : most_on k rest ≡ most_on k later =
            ap (most_on k) parts
            ∙ most_is_one k (batch ++ later) (most_on k (batch ++ later)) (most_on k later) (most_is_most k (batch ++ later))
            (most_elsewhere link cycle batch later same apart k differ) in
            omega (arith, kept, here, before.with_rest k below)
      ];
    }
