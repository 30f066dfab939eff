-- Pages that say the same give the same book, and are in the same order.
use Rattle.std.proofs.Common.{ℕ, ◌≡◌, ◌<◌, ◌≤◌, ◌∙◌, [], List, Some, arith, flat_map, inl, inr, length, map, slice_get, sym, ap, subst}
use Rattle.std.proofs.lemmas.Bool.{cases_lt}
use Rattle.std.proofs.lemmas.List.{get_or_past}
use Rattle.std.proofs.lemmas.List.Folds.{flat_map-map}
use Rattle.std.proofs.lemmas.Option.{none-some}
use Rattle.cqf_lists.proofs.EachBelow.{get_or-singles, length-singles, same_below}
use Rattle.cqf_model.specs.Book.{Contents}
use Rattle.cqf_model.specs.declared.frames.Dropped.{Dropped}
use Rattle.cqf_model.specs.declared.frames.Page.{Page}
use Rattle.cqf_model.specs.declared.frames.Started.{Started}
use Rattle.cqf_book.specs.Pages.{ArePosted, Posted, page_at, page_count, pages_of}
use Rattle.cqf_book.specs.Shares.{Agree, AreDropsInOrder, AreStartsInOrder, IsBookOfPages, Own, Said, all_pages_of, on_pages, said, with_shares}
use Rattle.cqf_book.proofs.Copying.{said_at, said_count}

module _ (pages others : ℕ → List Page) (bridges : ℕ)
    (same : (bridge : ℕ) → bridge < bridges → map said (pages bridge) ≡ map said (others bridge)) where
  -- their contents are the same
  pub same_on : {A : Type 0} (of_said : Said → List A) →
      on_pages (λ (page : Page). of_said (said page)) pages bridges ≡ on_pages (λ (page : Page). of_said (said page)) others bridges
  same_on of_said = same_below (λ bridge. flat_map (λ (page : Page). of_said (said page)) (pages bridge))
      (λ bridge. flat_map (λ (page : Page). of_said (said page)) (others bridge)) bridges
      (λ bridge below. sym (flat_map-map of_said said (pages bridge)) ∙ ap (flat_map of_said) (same bridge below) ∙ flat_map-map of_said said (others bridge))

  -- and so is their book
  pub same_book : (book : Contents) → IsBookOfPages pages bridges book → IsBookOfPages others bridges book
  same_book book is = record {
    starts = subst (λ (on : List Started). AreStartsInOrder on book.starts) (same_on (λ (s : Said). s.contents.starts)) is.starts;
    background = subst (λ (on : List Started). AreStartsInOrder on book.background) (same_on (λ (s : Said). s.contents.background)) is.background;
    drops = subst (λ (on : List Dropped). AreDropsInOrder on book.drops) (same_on (λ (s : Said). s.contents.drops)) is.drops;
  }

-- pages that say what those from before and the shares' say are without doubles or gaps, so the latter are too
module _ (opening posted : Posted) (shares : List Own) (before : ArePosted opening) (are : ArePosted posted)
    (agree : Agree opening shares posted opening.bridges) where
  -- the rows of pages, by bridge
  abbrev rows : List (List Page)
  rows = (with_shares opening shares).pages

  -- there is one for each bridge
  one_each : length rows ≡ opening.bridges
  one_each = length-singles (all_pages_of opening shares) opening.bridges

  -- the row of a bridge, and none for a bridge that doesn't exist
  row_at : (bridge : ℕ) → bridge < opening.bridges → pages_of (with_shares opening shares) bridge ≡ all_pages_of opening shares bridge
  row_at bridge inside = get_or-singles (all_pages_of opening shares) opening.bridges bridge [] inside

  row_past : (bridge : ℕ) → opening.bridges ≤ bridge → pages_of (with_shares opening shares) bridge ≡ []
  row_past bridge past = get_or_past rows bridge [] (omega (arith, one_each, past))

  -- it has no more pages than there are cycles
  row_in_cycles : (bridge : ℕ) → page_count (with_shares opening shares) bridge ≤ opening.cycles
  row_in_cycles bridge = elim (cases_lt bridge opening.bridges) [
    | inl inside ↦
        let agrees = agree bridge inside in
        omega (
          arith,
          ap length (row_at bridge inside),
          agrees.in_cycles,
          said_count (pages_of posted bridge) (all_pages_of opening shares bridge)
              (sym agrees.same),
        )
    | inr past ↦ omega (arith, ap length (row_past bridge past))
  ]

  -- each page is of the bridge and the cycle at whose index it is
  row_in_place : (bridge cycle : ℕ) (page : Page) → page_at (with_shares opening shares) bridge cycle ≡ Some page →
      (page.bridge ≡ bridge) × (page.cycle.0 ≡ cycle)
  row_in_place bridge cycle page found = elim (cases_lt bridge opening.bridges) [
    | inl inside ↦
        let p = said_at (pages_of posted bridge) (all_pages_of opening shares bridge) (sym (agree bridge inside).same) cycle page
        (sym (ap (λ (row : List Page). slice_get row cycle) (row_at bridge inside)) ∙ found) in
        let index = are.in_place bridge cycle p.0 p.1 in
        (sym (ap (λ (s : Said). s.bridge) p.2) ∙ index.0, sym (ap (λ (s : Said). s.cycle) p.2) ∙ index.1)
    | inr past ↦ absurd (none-some page (sym (ap (λ (row : List Page). slice_get row cycle) (row_past bridge past)) ∙ found))
  ]

  -- so the pages from before, followed by the shares', are without doubles or gaps
  pub shares_posted : ArePosted (with_shares opening shares)
  shares_posted = record {
    few_bridges = before.few_bridges;
    few_cycles = before.few_cycles;
    each_bridge = one_each;
    in_cycles = row_in_cycles;
    in_place = row_in_place;
  }
