-- The starts and drops of a book that says the shift.
use Rattle.std.proofs.Common.{ℕ, ◌≡◌, ◌≢◌, ◌∙◌, ◌+◌, ◌<◌, ◌≤◌, ◌++◌, Bool, List, AllPairs, Contains, Some, ap, arith, filter, get_or, inl, inr, length, map, refl, subst, sym}
use Rattle.std.specs.Prelude.{slice_get}
use Rattle.std.specs.List.Sorted.{IsPermutation}
use Rattle.std.proofs.lemmas.List.Elements.{Contains-append_cases, Contains-append_left, Contains-append_right, filter-append}
use Rattle.std.proofs.lemmas.List.Kept.{AllPairs-filter}
use Rattle.std.proofs.lemmas.List.Sorted.{Contains-permutation, IsPermutation-sym}
use Rattle.std.proofs.lemmas.Option.{slice_get-get_or, slice_get_within}
use Rattle.cqf_lists.proofs.Members.{contains_filter, contains_from_filter, contains_from_map, contains_map, index_of_member}
use Rattle.cqf_lists.proofs.Pairs.{pairs_append, pairs_map, pairs_weaker}
use Rattle.cqf_units.specs.Timing.{cycle_at}
use Rattle.cqf_model.specs.declared.frames.Dropped.{Dropped}
use Rattle.cqf_model.specs.declared.frames.Offer.{Offer}
use Rattle.cqf_model.specs.declared.frames.Offered.{Offered}
use Rattle.cqf_model.specs.declared.frames.Started.{Started}
use Rattle.cqf_model.specs.declared.topology.Row.{Row}
use Rattle.cqf_model.specs.Book.{Contents}
use Rattle.cqf_model.specs.Promise.{SaysTheShift}
use Rattle.cqf_model.specs.Shift.{IsCovered}
use Rattle.cqf_model.specs.Run.{Run}
use Rattle.cqf_model.specs.Table.{AreOrderly}
use Rattle.cqf_model.specs.Policing.{numbered}
use Rattle.cqf_laws_shift.proofs.Came.{one_number}
use Rattle.cqf_laws_coverage.specs.Counted.{AreDecided}
use Rattle.cqf_instants_run.specs.Columns.{verdict_at}
use Rattle.cqf_instants_run.specs.declared.judged.EdgeVerdict.{EdgeVerdict}
use Rattle.cqf_instants_run.proofs.Covers.{numbered_at}
use Rattle.cqf_instants_run.proofs.Offers.{numbered_all}
use Rattle.cqf_program_runs.specs.Deliveries.Following.{IsAfter}
use Rattle.cqf_program_runs.specs.Deliveries.UnderWay.{HopNumbersAreWithin}
use Rattle.cqf_program_runs.proofs.AfterOffers.{starts_after}
use Rattle.cqf_program_runs.proofs.ByBook.{not_both}
use Rattle.std.proofs.lemmas.List.Elements.{All-contains}
use Rattle.cqf_program_summary.specs.declared.hops.legs.Leg.{Leg}
use Rattle.cqf_program_summary.specs.declared.hops.legs.Leg.TheVariants as leg
use Rattle.cqf_program_summary.specs.Hops.Legs.{AreApart, AreByFrame, Wanted, frame_of, is_wanted, legs_of_book, wanted_legs}
use Rattle.cqf_program_summary.specs.Hops.Prepared.{AreDropsByFrame}
use Rattle.cqf_program_summary.specs.Hops.Rounds.{Source, legs_of_run}
use Rattle.cqf_program_summary.proofs.InRounds.{dropped_from, dropped_to, started_from, started_to}

-- the index of an offer with a number
pub record HasIndex (offers : List Offer) (x : Offered) : Type 0 where
  pub index : ℕ
  pub within : index < length offers
  pub at : slice_get offers index ≡ Some x.offer
  pub number : x.frame ≡ index + 1

pub has_index : (offers : List Offer) (x : Offered) → Contains (numbered offers) x → HasIndex offers x
has_index offers x among =
    let found = index_of_member (numbered offers) x among in
    let k = found.0 in
    let inside : k < length offers = omega (arith, slice_get_within (numbered offers) k x found.1, numbered_all offers) in
    let offer = get_or offers k x.offer in
    let at : slice_get offers k ≡ Some offer = slice_get-get_or offers k x.offer inside in
    let own : Offered = record { frame = k + 1; offer = offer } in
    let both : Some own ≡ Some x = sym (numbered_at offers k offer at) ∙ found.1 in
    let same : own ≡ x = cc in
    record {
      index = k;
      within = inside;
      at = at ∙ ap (λ (y : Offered). Some y.offer) same;
      number = sym (ap (λ (y : Offered). y.frame) same);
    }

module _ (run : Run) (book : Contents) (says : SaysTheShift run book) where
  -- a frame that starts isn't dropped
  pub start_or_drop : (s : Started) (z : Dropped) → Contains book.starts s → Contains book.drops z → s.frame ≡ z.frame → ⊥
  start_or_drop s z started dropped same =
      let shift = says.only s started in
      let of = says.only_drops z dropped in
      let one : shift.x ≡ of.x =
      one_number run.offers shift.x of.x shift.covered.offered of.uncovered.offered (sym shift.is_frame ∙ same ∙ of.frame) in
      not_both run of.x shift.row z.reason (subst (λ (x : Offered). IsCovered run x shift.row) one shift.covered) of.uncovered

  -- so no two are of the same frame at the same instant on the same link, in any order of the drops
  module _ (drops : List Dropped) (own : (z : Dropped) → Contains drops z → Contains book.drops z)
      (distinct : AllPairs (λ (a b : Dropped). a.frame ≢ b.frame) drops) where
    pub all_apart : AllPairs AreApart (map leg.Started book.starts ++ map leg.Dropped drops)
    all_apart =
        pairs_append AreApart (map leg.Started book.starts) (map leg.Dropped drops)
        (pairs_map AreApart leg.Started book.starts
        (pairs_weaker (λ (a b : Started). a.frame ≡ b.frame → a.link ≢ b.link) (λ (a b : Started). AreApart (leg.Started a) (leg.Started b)) book.starts
        (λ a b ca cb once frames instants links. once frames links) says.once_each))
        (pairs_map AreApart leg.Dropped drops
        (pairs_weaker (λ (a b : Dropped). a.frame ≢ b.frame) (λ (a b : Dropped). AreApart (leg.Dropped a) (leg.Dropped b)) drops
        (λ a b ca cb differ frames instants links. differ frames) distinct))
        (λ x y cx cy. λ frames instants links.
        let a = contains_from_map leg.Started book.starts x cx in
        let b = contains_from_map leg.Dropped drops y cy in
        start_or_drop a.0 b.0 a.1 (own b.0 b.1) (ap frame_of a.2 ∙ frames ∙ sym (ap frame_of b.2)))

  -- each start has an offer, at most the greatest hop number of a tree before it
  module _ (orderly : AreOrderly run.domain run.tables) (rows : List Row) (edge_verdicts : List EdgeVerdict)
      (decided : AreDecided run (verdict_at run.domain rows edge_verdicts)) (hop_number : ℕ) (hop_numbers : HopNumbersAreWithin rows hop_number) where
    pub starts_soon : (s : Started) → Contains book.starts s →
        (index : ℕ) × (offer : Offer) × (slice_get run.offers index ≡ Some offer) × (s.frame ≡ index + 1)
        × (s.cycle.0 ≤ cycle_at run.domain.cycle_time offer.at.0 + hop_number)
    starts_soon s among =
        let shift = says.only s among in
        let index = has_index run.offers shift.x shift.covered.offered in
        let number : s.frame ≡ index.index + 1 = shift.is_frame ∙ index.number in
        let following = All-contains (IsAfter run.domain.cycle_time hop_number run.offers) book.starts s
        (starts_after run book says orderly rows edge_verdicts decided hop_number hop_numbers) among in
        (index.index, shift.x.offer, index.at, number, following.soon index.index shift.x.offer index.at number)

  -- a drop is of an offer
  pub drop_number : (z : Dropped) → Contains book.drops z → (0 < z.frame) × (z.frame ≤ length run.offers)
  drop_number z dropped =
      let of = says.only_drops z dropped in
      let index = has_index run.offers of.x of.uncovered.offered in
      (omega (arith, of.frame, index.number), omega (arith, of.frame, index.number, index.within))

-- the wanted legs of a book are those of its starts and of its drops by frame
module _ (offers : List Offer) (wanted : Wanted) (book : Contents) (drops : List Dropped) (by : AreDropsByFrame book drops) where
  abbrev source : Source
  source = record { offers = offers; wanted = wanted; drops = drops }

  abbrev asked : Leg → Bool
  asked x = is_wanted offers wanted (frame_of x)

  pub to_run : (x : Leg) → Contains (wanted_legs offers wanted book) x → Contains (legs_of_run source book.starts) x
  to_run x among =
      let kept = contains_from_filter asked (legs_of_book book) x among in
      elim (Contains-append_cases (map leg.Started book.starts) (map leg.Dropped book.drops) x kept.0) [
        | inl started ↦
            let from = contains_from_map leg.Started book.starts x started in
            Contains-append_left (filter asked (map leg.Started book.starts)) (filter asked (map leg.Dropped drops)) x (started_to source book.starts from.0 x from.1 from.2 kept.1)
        | inr dropped ↦
            let from = contains_from_map leg.Dropped book.drops x dropped in
            Contains-append_right (filter asked (map leg.Started book.starts)) (filter asked (map leg.Dropped drops)) x
            (dropped_to source drops from.0 x (Contains-permutation book.drops drops from.0 by.same from.1) from.2 kept.1)
      ]

  pub from_run : (x : Leg) → Contains (legs_of_run source book.starts) x → Contains (wanted_legs offers wanted book) x
  from_run x among =
      elim (Contains-append_cases (filter asked (map leg.Started book.starts)) (filter asked (map leg.Dropped drops)) x among) [
        | inl started ↦
            let from = started_from source book.starts x started in
            contains_filter asked (legs_of_book book) x
            (Contains-append_left (map leg.Started book.starts) (map leg.Dropped book.drops) x
            (subst (λ (y : Leg). Contains (map leg.Started book.starts) y) from.2 (contains_map leg.Started book.starts from.0 from.1))) from.3
        | inr dropped ↦
            let from = dropped_from source drops x dropped in
            contains_filter asked (legs_of_book book) x
            (Contains-append_right (map leg.Started book.starts) (map leg.Dropped book.drops) x
            (subst (λ (y : Leg). Contains (map leg.Dropped book.drops) y) from.2
            (contains_map leg.Dropped book.drops from.0 (Contains-permutation drops book.drops from.0 (IsPermutation-sym book.drops drops by.same) from.1)))) from.3
      ]
