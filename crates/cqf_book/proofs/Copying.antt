-- Pages that say the same as pages without doubles or gaps have none either, and have the same totals.
use Rattle.std.proofs.Common.{ℕ, ◌≡◌, ◌∙◌, [], List, Option, Some, None, length, map, slice_get, get_or, sum_by, sym, refl, ap, arith}
use Rattle.std.specs.Option.{option_map}
use Rattle.std.proofs.Math.ListN.{get_or-map}
use Rattle.std.proofs.lemmas.List.{length-map}
use Rattle.std.proofs.lemmas.Option.{slice_get-map, none-some, same_Some}
use Rattle.cqf_model.specs.declared.frames.Page.{Page}
use Rattle.cqf_model.specs.OnLinks.{frames_on, octets_on}
use Rattle.cqf_lists.proofs.Sums.{sum_map}
use Rattle.cqf_book.specs.Pages.{Posted, ArePosted, over_pages, page_at, page_count, pages_of}
use Rattle.cqf_book.specs.Shares.{Said, said}
use Rattle.cqf_book.specs.Totals.{AreKeptTotals, count_of_pages}

-- what each bridge's pages say
abbrev rows_said : List (List Page) → List (List Said)
rows_said rows = map (map said) rows

-- a sum over all pages depends only on what they say
pub summed : (of_said : Said → ℕ) (rows : List (List Page)) → sum_by (λ row. sum_by of_said row) (rows_said rows)
    ≡ over_pages (λ (page : Page). of_said (said page)) rows
summed of_said rows = sum_map (λ row. sum_by of_said row) (map said) rows ∙ (λ i. sum_by (λ (row : List Page). sum_map of_said said row i) rows)

-- and so does their number
counted : (rows : List (List Page)) → sum_by (λ (row : List Said). length row) (rows_said rows) ≡ count_of_pages rows
counted rows = sum_map (λ (row : List Said). length row) (map said) rows ∙ (λ i. sum_by (λ (row : List Page). length-map row said i) rows)

-- an option that is mapped has a value only if the original has
from_map : {A B : Type 0} (f : A → B) (o : Option A) (y : B) → option_map f o ≡ Some y → (x : A) × (o ≡ Some x) × (f x ≡ y)
from_map f (Some x) y h = (x, refl, same_Some (f x) y h)
from_map f None y h = absurd (none-some y h)

-- if lists of pages say the same, so do the pages at each index
pub said_at : (pages others : List Page) → map said others ≡ map said pages → (index : ℕ) (page : Page) → slice_get others index ≡ Some page →
    (p : Page) × (slice_get pages index ≡ Some p) × (said p ≡ said page)
said_at pages others same index page found = from_map said (slice_get pages index) (said page)
    (sym (slice_get-map said pages index) ∙ ap (λ (row : List Said). slice_get row index) (sym same)
    ∙ slice_get-map said others index ∙ ap (option_map said) found)

-- and there are as many
pub said_count : (pages others : List Page) → map said others ≡ map said pages → length others ≡ length pages
said_count pages others same = sym (length-map others said) ∙ ap length same ∙ length-map pages said

module _ (posted other : Posted) (same : rows_said other.pages ≡ rows_said posted.pages) where
  -- bridge by bridge the pages say the same
  pub same_row : (bridge : ℕ) → map said (pages_of other bridge) ≡ map said (pages_of posted bridge)
  same_row bridge = sym (get_or-map (map said) other.pages bridge []) ∙ ap (λ (rows : List (List Said)). get_or rows bridge []) same
      ∙ get_or-map (map said) posted.pages bridge []

  -- there are as many
  same_count : (bridge : ℕ) → page_count other bridge ≡ page_count posted bridge
  same_count bridge = said_count (pages_of posted bridge) (pages_of other bridge) (same_row bridge)

  -- the page at an index says the same
  same_page : (bridge cycle : ℕ) (page : Page) → page_at other bridge cycle ≡ Some page → (p : Page) × (page_at posted bridge cycle ≡ Some p)
      × (said p ≡ said page)
  same_page bridge cycle page found = said_at (pages_of posted bridge) (pages_of other bridge) (same_row bridge) cycle page found

  -- a sum over all pages is the same
  same_sum : (of_said : Said → ℕ) → over_pages (λ (page : Page). of_said (said page)) other.pages
      ≡ over_pages (λ (page : Page). of_said (said page)) posted.pages
  same_sum of_said = sym (summed of_said other.pages) ∙ ap (λ (rows : List (List Said)). sum_by (λ row. sum_by of_said row) rows) same
      ∙ summed of_said posted.pages

  -- there are no doubles or gaps
  copy_posted : other.bridges ≡ posted.bridges → other.cycles ≡ posted.cycles → ArePosted posted → ArePosted other
  copy_posted bridges cycles facts = record {
    few_bridges = omega (arith, facts.few_bridges, bridges);
    few_cycles = omega (arith, facts.few_cycles, cycles);
    each_bridge = sym (length-map other.pages (map said)) ∙ ap length same ∙ length-map posted.pages (map said) ∙ facts.each_bridge ∙ sym bridges;
    in_cycles = λ bridge. omega (arith, facts.in_cycles bridge, same_count bridge, cycles);
    in_place = λ bridge cycle page found.
        let p = same_page bridge cycle page found in
        let index = facts.in_place bridge cycle p.0 p.1 in
        (sym (ap (λ (s : Said). s.bridge) p.2) ∙ index.0, sym (ap (λ (s : Said). s.cycle) p.2) ∙ index.1);
  }

  -- the totals are the same
  pub copy_kept : (frames octets frames_again octets_again : List ℕ) → other.bridges ≡ posted.bridges → other.cycles ≡ posted.cycles
      → frames_again ≡ frames → octets_again ≡ octets → AreKeptTotals posted frames octets → AreKeptTotals other frames_again octets_again
  copy_kept frames octets frames_again octets_again bridges cycles is_frames is_octets kept =
      let few : count_of_pages other.pages ≡ count_of_pages posted.pages =
      sym (counted other.pages) ∙ ap (λ (rows : List (List Said)). sum_by (λ (row : List Said). length row) rows) same ∙ counted posted.pages in
      let at = λ (fs : List ℕ) (link : ℕ). get_or fs link 0 in
      record {
        posted_so = copy_posted bridges cycles kept.posted_so;
        totals = record {
          all_frames = ap length is_frames ∙ kept.totals.all_frames;
          all_octets = ap length is_octets ∙ kept.totals.all_octets;
          are_frames = λ link below. ap (λ fs. at fs link) is_frames ∙ kept.totals.are_frames link below
              ∙ sym (same_sum (λ (s : Said). frames_on link s.contents.starts));
          are_octets = λ link below. ap (λ fs. at fs link) is_octets ∙ kept.totals.are_octets link below
              ∙ sym (same_sum (λ (s : Said). octets_on link s.contents.starts));
          few_frames = λ link below. omega (arith, kept.totals.few_frames link below, ap (λ fs. at fs link) is_frames, few);
          few_octets = λ link below. omega (arith, kept.totals.few_octets link below, ap (λ fs. at fs link) is_octets, few);
        };
      }
