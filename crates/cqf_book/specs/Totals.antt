-- The totals of all links.
use Rattle.std.specs.Prelude.{ℕ, ◌≡◌, ◌+◌, ◌*◌, ◌^◌, ◌<◌, ◌≤◌, List, length, sum_by, slice_index}
use Rattle.cqf_model.specs.declared.frames.Page.{Page}
use Rattle.cqf_model.specs.declared.frames.Started.{Started}
use Rattle.cqf_model.specs.OnLinks.{frames_on, octets_on}
use Rattle.cqf_book.specs.Pages.{Posted, ArePosted, frames_posted, octets_posted}

-- the totals of all links grew by those of the starts
pub record AreAdded (starts : List Started) (frames octets frames_after octets_after : List ℕ) : Type 0 where
  pub all_frames : length frames_after ≡ 65536
  pub all_octets : length octets_after ≡ 65536
  pub frames_add : (link : ℕ) → link < 65536 → slice_index frames_after link ≡ slice_index frames link + frames_on link starts
  pub octets_add : (link : ℕ) → link < 65536 → slice_index octets_after link ≡ slice_index octets link + octets_on link starts

-- each link has at most 2^64 of a page's starts, with at most 2^96 octets
pub record AreFewTotals (starts : List Started) : Type 0 where
  pub few_frames : (link : ℕ) → frames_on link starts ≤ 2 ^ 64
  pub few_octets : (link : ℕ) → octets_on link starts ≤ 2 ^ 96

-- there is room for the starts of one more page
pub record HaveTotalsRoom (frames octets : List ℕ) : Type 0 where
  pub all_frames : length frames ≡ 65536
  pub all_octets : length octets ≡ 65536
  pub frames_room : (link : ℕ) → link < 65536 → slice_index frames link + 2 ^ 64 < 2 ^ 128
  pub octets_room : (link : ℕ) → link < 65536 → slice_index octets link + 2 ^ 96 < 2 ^ 128

-- the number of pages
abbrev pub count_of_pages : List (List Page) → ℕ
count_of_pages pages = sum_by (λ (row : List Page). length row) pages

-- by link, the totals are those of the pages, and at most 2^64 starts and 2^96 octets for each page
pub record AreTotals (pages : List (List Page)) (frames octets : List ℕ) : Type 0 where
  pub all_frames : length frames ≡ 65536
  pub all_octets : length octets ≡ 65536
  pub are_frames : (link : ℕ) → link < 65536 → slice_index frames link ≡ frames_posted link pages
  pub are_octets : (link : ℕ) → link < 65536 → slice_index octets link ≡ octets_posted link pages
  pub few_frames : (link : ℕ) → link < 65536 → slice_index frames link ≤ count_of_pages pages * 2 ^ 64
  pub few_octets : (link : ℕ) → link < 65536 → slice_index octets link ≤ count_of_pages pages * 2 ^ 96

-- the invariant of pages with their totals: the pages are without doubles or gaps, and the totals are theirs
pub record AreKeptTotals (posted : Posted) (frames octets : List ℕ) : Type 0 where
  pub posted_so : ArePosted posted
  pub totals : AreTotals posted.pages frames octets
