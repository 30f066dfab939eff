-- Each offer has exactly one delivery for each of its listeners.
use Rattle.std.proofs.Common.{◌≡◌, ◌≢◌, ◌∙◌, ◌∷◌, ◌<◌, ◌≤◌, ◌==◌, [], ℕ, AllPairs, Bool, true, false, cond, List, Option}
use Rattle.std.proofs.Common.{Some, None, Contains, ap, ap₂, append-nil, arith, count_by, filter, get_or, if◌then◌else◌, inl, inr, length, nat_lt}
use Rattle.std.proofs.Common.{refl, sum_by, sym}
use Rattle.std.specs.List.{flat_map}
use Rattle.std.proofs.lemmas.Bool.{cond-false, cond-true}
use Rattle.std.proofs.lemmas.Bool.Decides.{nat_tests}
use Rattle.std.proofs.lemmas.List.Kept.{AllPairs-filter}
use Rattle.cqf_lists.proofs.EachBelow.{filter_none}
use Rattle.cqf_lists.proofs.Made.{filter_made}
use Rattle.cqf_lists.proofs.Members.{contains_cases, contains_from_filter, contains_from_map, contains_none, contains_one, find_member}
use Rattle.cqf_lists.proofs.Pairs.{pairs_head, pairs_tail, pairs_weaker}
use Rattle.cqf_lists.proofs.Sums.{sum_at_most_one, sum_map, sum_member}
use Rattle.cqf_model.specs.declared.frames.Dropped.{Dropped}
use Rattle.cqf_model.specs.declared.frames.Offered.{Offered}
use Rattle.cqf_model.specs.declared.topology.Hop.{Hop}
use Rattle.cqf_model.specs.declared.topology.Row.{Row}
use Rattle.cqf_model.specs.Book.{Contents}
use Rattle.cqf_model.specs.Domain.{Domain, end_of, is_text}
use Rattle.cqf_model.specs.Run.{Run}
use Rattle.cqf_model.specs.Shift.{IsCovered, offer_cycle, row_for}
use Rattle.cqf_model.specs.Table.{AreOrderly, IsTree, table_of}
use Rattle.cqf_model.specs.Policing.{numbered}
use Rattle.cqf_model.specs.Promise.{SaysTheShift}
use Rattle.cqf_model.proofs.Texts.{is_text_itself, is_text_same}
use Rattle.cqf_topology.specs.DomainText.{IsDomain}
use Rattle.cqf_topology.specs.PlannedText.{PlannedText}
use Rattle.cqf_laws_shift.proofs.Came.{numbers_ascend}
use Rattle.cqf_program_plans.specs.EndNames.{name_of_end}
use Rattle.cqf_program_plans.specs.Latency.Text.{is_station, listeners_of}
use Rattle.cqf_program_runs.specs.declared.deliveries.delivery.Passage.TheVariants as passage
use Rattle.cqf_program_runs.specs.declared.deliveries.delivery.Delivery.{Delivery}
use Rattle.cqf_program_runs.specs.Deliveries.ArrivalLaws.{IsWrittenOnce, goes_to, written_of_frame, written_to}
use Rattle.cqf_program_runs.specs.Deliveries.{deadline_named, deliveries_by, deliveries_of_offer, deliveries_unless}
use Rattle.cqf_program_runs.specs.Deliveries.{delivery_of, delivery_to, drop_of, whole_on}
use Rattle.cqf_program_runs.proofs.Listeners.{one_listener}
use Rattle.cqf_program_runs.proofs.Well.{of_covered, of_uncovered}

-- if the members that pass exclude one another, one that passes is the only one that is kept
not_passing : (b : Bool) → (b ≡ true → ⊥) → b ≡ false
not_passing true no_pass = absurd (no_pass refl)
not_passing false no_pass = refl

filter_alone : {X : Type 0} (p : X → Bool) (xs : List X) (x : X) → AllPairs (λ (a b : X). p a ≡ true → p b ≡ true → ⊥) xs → Contains xs x →
    p x ≡ true → filter p xs ≡ x ∷ []
filter_alone p [] x apart inside passes = absurd (contains_none x inside)
filter_alone {X} p (y ∷ xs) x apart inside passes =
    let excluded : X → X → Type 0 = λ (a b : X). p a ≡ true → p b ≡ true → ⊥ in
    elim (contains_cases y xs x inside) [
      | inl same ↦
          let first : p y ≡ true = ap p same ∙ passes in
          let none : filter p xs ≡ [] =
          filter_none p xs (λ z c. not_passing (p z) (λ second. pairs_head excluded y xs z apart c first second)) in
          cond-true (p y) (y ∷ filter p xs) (filter p xs) first ∙ ap₂ (λ (a : X) (rest : List X). a ∷ rest) same none
      | inr following ↦
          cond-false (p y) (y ∷ filter p xs) (filter p xs) (not_passing (p y) (λ first. pairs_head excluded y xs x apart following first passes))
          ∙ filter_alone p xs x (pairs_tail excluded y xs apart) following passes
    ]

module _ (run : Run) (streams : List PlannedText) (book : Contents) where
  -- the deliveries of an offer have its frame number
  frame_by : (y : Offered) (delivery : Delivery) (found : Option Row) →
      Contains (deliveries_by run.domain (whole_on run.domain book.starts y.frame) (deadline_named streams y.offer.stream) y found) delivery →
      delivery.frame ≡ y.frame
  frame_by y delivery None c = absurd (contains_none delivery c)
  frame_by y delivery (Some row) c =
      let hop = contains_from_map (delivery_to run.domain (whole_on run.domain book.starts y.frame) (deadline_named streams y.offer.stream) y)
      (listeners_of run.domain row) delivery c in
      ap (λ (z : Delivery). z.frame) (sym hop.2)

  frame_unless : (y : Offered) (delivery : Delivery) (found : Option Dropped) → Contains (deliveries_unless run streams book y found) delivery →
      delivery.frame ≡ y.frame
  frame_unless y delivery None c = frame_by y delivery (row_for run.domain run.tables y) c
  frame_unless y delivery (Some dropped) c =
      ap (λ (z : Delivery). z.frame) (sym (contains_one (delivery_of run.domain y (passage.Dropped dropped.reason)) delivery c))

  frame_within : (y : Offered) (delivery : Delivery) (b : Bool) →
      Contains (if b then deliveries_unless run streams book y (drop_of book.drops y.frame) else []) delivery → delivery.frame ≡ y.frame
  frame_within y delivery true c = frame_unless y delivery (drop_of book.drops y.frame) c
  frame_within y delivery false c = absurd (contains_none delivery c)

  frame_of : (y : Offered) (delivery : Delivery) → Contains (deliveries_of_offer run streams book y) delivery → delivery.frame ≡ y.frame
  frame_of y delivery c = frame_within y delivery (nat_lt (offer_cycle run.domain y) (length run.tables)) c

  -- so the deliveries with its number are its deliveries
  module _ (x : Offered) (inside : Contains (numbered run.offers) x) where
    -- no other offer has its number
    apart : AllPairs (λ (a b : Offered). (a.frame == x.frame) ≡ true → (b.frame == x.frame) ≡ true → ⊥) (numbered run.offers)
    apart i j e l in_list =
        one_only (get_or (numbered run.offers) i e) (get_or (numbered run.offers) j e) (numbers_ascend run.offers i j e l in_list)
      where
        -- two offers don't both have the number
        one_only : (a b : Offered) → a.frame < b.frame → (a.frame == x.frame) ≡ true → (b.frame == x.frame) ≡ true → ⊥
        one_only a b less first second =
            let one : a.frame ≡ x.frame = grind (arith, nat_tests) in
            let two : b.frame ≡ x.frame = grind (arith, nat_tests) in
            omega (arith, less, one, two)

    written_is_own : written_of_frame run streams book x.frame ≡ deliveries_of_offer run streams book x
    written_is_own =
        let itself : (x.frame == x.frame) ≡ true = grind (arith, nat_tests) in
        filter_made (deliveries_of_offer run streams book) (λ (y : Offered). y.frame == x.frame) (λ (delivery : Delivery). delivery.frame == x.frame)
        (numbered run.offers) (λ y delivery among c. ap (λ (n : ℕ). n == x.frame) (frame_of y delivery c))
        ∙ ap (flat_map (deliveries_of_offer run streams book)) (filter_alone (λ (y : Offered). y.frame == x.frame) (numbered run.offers) x apart inside itself)
        ∙ append-nil (deliveries_of_offer run streams book x)

    pub is_written_once : SaysTheShift run book → offer_cycle run.domain x < length run.tables → IsWrittenOnce run streams book x
    is_written_once says within = record {
      as_covered = λ row covered. written_is_own ∙ of_covered run streams book says x inside within row covered;
      as_dropped = λ reason uncovered. written_is_own ∙ of_uncovered run streams book says x inside within reason uncovered;
    }

    -- and exactly one delivery goes to each listener
    module _ (domain : IsDomain run.domain) (orderly : AreOrderly run.domain run.tables) (says : SaysTheShift run book)
        (within : offer_cycle run.domain x < length run.tables) (row : Row) (covered : IsCovered run x row) (hop : Hop)
        (among : Contains (listeners_of run.domain row) hop) where
      abbrev d : Domain
      d = run.domain

      abbrev to_it : Hop → Bool
      to_it h = is_text (name_of_end d h.link) (name_of_end d hop.link)

      -- the row goes along a tree
      tree : IsTree d row.tree.items
      tree =
          let cycle = offer_cycle d x in
          let member = find_member (λ (r : Row). is_text r.name x.offer.stream) (table_of run.tables cycle) row covered.named in
          orderly.trees cycle row member.0

      -- two hops to one listener would reach it twice
      one_hop : AllPairs (λ (a b : Hop). to_it a ≡ true → to_it b ≡ true → ⊥) (listeners_of d row)
      one_hop =
          let ends : Hop → Hop → Type 0 = λ (a b : Hop). end_of d a.link ≢ end_of d b.link in
          pairs_weaker ends (λ (a b : Hop). to_it a ≡ true → to_it b ≡ true → ⊥) (listeners_of d row)
          (λ a b ca cb differ first second. differ (one_listener d a.link b.link domain
          (contains_from_filter (λ (h : Hop). is_station (end_of d h.link)) row.tree.items a ca).1
          (contains_from_filter (λ (h : Hop). is_station (end_of d h.link)) row.tree.items b cb).1
          (is_text_same (name_of_end d a.link) (name_of_end d hop.link) first ∙ sym (is_text_same (name_of_end d b.link) (name_of_end d hop.link) second))))
          (AllPairs-filter ends (λ (h : Hop). is_station (end_of d h.link)) row.tree.items tree.reached_once)

      pub written_to_one : written_to run streams book x.frame (name_of_end d hop.link) ≡ 1
      written_to_one =
          let to = delivery_to d (whole_on d book.starts x.frame) (deadline_named streams x.offer.stream) x in
          let counts : Hop → ℕ = λ h. if to_it h then 1 else 0 in
          let reported : written_to run streams book x.frame (name_of_end d hop.link) ≡ sum_by counts (listeners_of d row) =
          ap (λ (ds : List Delivery). count_by (λ (z : Delivery). goes_to (name_of_end d hop.link) z.passage) ds)
          ((is_written_once says within).as_covered row covered)
          ∙ sum_map (λ (z : Delivery). cond (goes_to (name_of_end d hop.link) z.passage) 1 0) to (listeners_of d row) in
          let most : sum_by counts (listeners_of d row) ≤ 1 = sum_at_most_one to_it 1 (listeners_of d row) one_hop in
          let least : counts hop ≤ sum_by counts (listeners_of d row) = sum_member counts (listeners_of d row) hop among in
          omega (arith, reported, most, least, ap {B = ℕ} (λ (b : Bool). if b then 1 else 0) (is_text_itself (name_of_end d hop.link)))
