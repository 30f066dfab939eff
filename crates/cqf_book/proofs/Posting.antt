-- Pages as they are posted: the first ones, and one more.
use Rattle.std.proofs.Common.{◌≡◌, ℕ, zero, suc, ◌+◌, ◌<◌, ◌≤◌, ◌++◌, ◌⊎◌, [], ◌∷◌, List, length, get_or, set, sum_by, arith, refl}
use Rattle.std.proofs.Common.{Some, replicate, All, inl, inr, sym, ap, ◌∙◌, subst}
use Rattle.std.specs.Prelude.{slice_get, slice_index}
use Rattle.std.proofs.lemmas.Bool.{cases_eq, cases_lt}
use Rattle.std.proofs.lemmas.List.{get_or-set_same, get_or-set_other, get_or-replicate, get_or_default, get_or_past, get_or_read}
use Rattle.std.proofs.lemmas.List.{set-get_or, length-replicate, length-set, length_push}
use Rattle.std.proofs.lemmas.List.Folds.{sum_by-replicate}
use Rattle.std.proofs.lemmas.List.Sums.{sum_by-le, sum_by-set, sum_by_push}
use Rattle.std.proofs.lemmas.Option.{none-some, same_Some}
use Rattle.cqf_model.specs.declared.frames.Page.{Page}
use Rattle.cqf_model.specs.OnLinks.{frames_on, octets_on}
use Rattle.cqf_book.specs.Pages.{Posted, ArePosted, IsNextPage, over_pages, pages_of, with_page}
use Rattle.cqf_book.specs.Totals.{AreAdded, AreFewTotals, AreKeptTotals, AreTotals, HaveTotalsRoom, count_of_pages}

-- no bridge has a page
none_at : (bridges bridge : ℕ) → pages_of (record { bridges = bridges; cycles = 0; pages = replicate bridges [] }) bridge ≡ []
none_at bridges bridge =
    let nothing : List Page = [] in
    elim (cases_lt bridge bridges) [
      | inl below ↦ get_or-replicate bridges bridge nothing nothing below
      | inr past ↦ get_or_past (replicate bridges nothing) bridge nothing (omega (arith, length-replicate bridges nothing))
    ]

-- a sum over the pages of bridges that have none
none_summed : (f : Page → ℕ) (bridges : ℕ) → over_pages f (replicate bridges []) ≡ 0
none_summed f bridges = omega (arith, sum_by-replicate (λ (row : List Page). sum_by f row) bridges [])

-- a total of nothing
nothing_at : (link : ℕ) → link < 65536 → slice_index (replicate 65536 0) link ≡ 0
nothing_at link below = get_or-replicate {A = ℕ} 65536 link 0 0 below

-- the first totals
none_totals : (bridges : ℕ) → AreTotals (replicate bridges []) (replicate 65536 0) (replicate 65536 0)
none_totals bridges = record {
  all_frames = length-replicate {A = ℕ} 65536 0;
  all_octets = length-replicate {A = ℕ} 65536 0;
  are_frames = λ link below. nothing_at link below ∙ sym (none_summed (λ (page : Page). frames_on link page.starts.items) bridges);
  are_octets = λ link below. nothing_at link below ∙ sym (none_summed (λ (page : Page). octets_on link page.starts.items) bridges);
  few_frames = λ link below. omega (arith, nothing_at link below);
  few_octets = λ link below. omega (arith, nothing_at link below);
}

-- before the first page
none_posted : (bridges cycles : ℕ) → bridges ≤ 1024 → cycles ≤ 100000
    → ArePosted (record { bridges = bridges; cycles = cycles; pages = replicate bridges [] })
none_posted bridges cycles few_bridges few_cycles = record {
  few_bridges = few_bridges;
  few_cycles = few_cycles;
  each_bridge = length-replicate bridges [];
  in_cycles = λ bridge. omega (arith, ap length (none_at bridges bridge));
  in_place = λ bridge cycle page found. absurd (none-some page (sym (ap (λ (row : List Page). slice_get row cycle) (none_at bridges bridge)) ∙ found));
}

-- and with the first totals
pub none_kept : (bridges cycles : ℕ) (pages : List (List Page)) (frames octets : List ℕ) → bridges ≤ 1024 → cycles ≤ 100000
    → pages ≡ replicate bridges [] → frames ≡ replicate 65536 0 → octets ≡ replicate 65536 0
    → AreKeptTotals (record { bridges = bridges; cycles = cycles; pages = pages }) frames octets
none_kept bridges cycles pages frames octets few_bridges few_cycles is_pages is_frames is_octets =
    subst (λ (rows : List (List Page)). AreKeptTotals (record { bridges = bridges; cycles = cycles; pages = rows }) frames octets) (sym is_pages)
    (subst (λ (fs : List ℕ). AreKeptTotals (record { bridges = bridges; cycles = cycles; pages = replicate bridges [] }) fs octets) (sym is_frames)
    (subst (λ (os : List ℕ). AreKeptTotals (record { bridges = bridges; cycles = cycles; pages = replicate bridges [] }) (replicate 65536 0) os) (sym is_octets)
    (record { posted_so = none_posted bridges cycles few_bridges few_cycles; totals = none_totals bridges })))

-- the rows of pages, with one more page in a bridge's row
abbrev rows_with : List (List Page) → ℕ → Page → List (List Page)
rows_with rows bridge page = set rows bridge (get_or rows bridge [] ++ page ∷ [])

-- a sum over all pages, after one more page in a row
sum_with : (f : Page → ℕ) (rows : List (List Page)) (bridge : ℕ) (page : Page) → bridge < length rows
    → over_pages f (rows_with rows bridge page) ≡ over_pages f rows + f page
sum_with f rows bridge page inside =
    let own = get_or rows bridge [] in
    omega (arith, sum_by-set (λ (row : List Page). sum_by f row) rows bridge (own ++ page ∷ []) [] inside, sum_by_push f own page)

-- one page more
count_with : (rows : List (List Page)) (bridge : ℕ) (page : Page) → bridge < length rows
    → count_of_pages (rows_with rows bridge page) ≡ count_of_pages rows + 1
count_with rows bridge page inside =
    let own = get_or rows bridge [] in
    omega (arith, sum_by-set (λ (row : List Page). length row) rows bridge (own ++ page ∷ []) [] inside, length_push own page)

-- the totals, after a page's starts are added
totals_with : (rows : List (List Page)) (bridge : ℕ) (page : Page) (frames octets frames_after octets_after : List ℕ) → bridge < length rows
    → AreTotals rows frames octets → AreAdded page.starts.items frames octets frames_after octets_after → AreFewTotals page.starts.items
    → AreTotals (rows_with rows bridge page) frames_after octets_after
totals_with rows bridge page frames octets frames_after octets_after inside before added few = record {
  all_frames = added.all_frames;
  all_octets = added.all_octets;
  are_frames = λ link below.
      let more = sum_with (λ (p : Page). frames_on link p.starts.items) rows bridge page inside in
      omega (arith, added.frames_add link below, before.are_frames link below, more);
  are_octets = λ link below.
      let more = sum_with (λ (p : Page). octets_on link p.starts.items) rows bridge page inside in
      omega (arith, added.octets_add link below, before.are_octets link below, more);
  few_frames = λ link below. omega (arith, added.frames_add link below, before.few_frames link below, few.few_frames link, count_with rows bridge page inside);
  few_octets = λ link below. omega (arith, added.octets_add link below, before.few_octets link below, few.few_octets link, count_with rows bridge page inside);
}

-- a row's page at an index, after one more is appended
pushed_at : (row : List Page) (page other : Page) (index : ℕ) → slice_get (row ++ page ∷ []) index ≡ Some other
    → (slice_get row index ≡ Some other) ⊎ ((index ≡ length row) × (page ≡ other))
pushed_at [] page other zero found = inr (refl, same_Some page other found)
pushed_at [] page other (suc index) found = absurd (none-some other found)
pushed_at (first ∷ row) page other zero found = inl found
pushed_at (first ∷ row) page other (suc index) found = elim (pushed_at row page other index found) [
  | inl there ↦ inl there
  | inr last ↦ inr (omega (arith, last.0), last.1)
]

-- the pages of a bridge, after a page is added: its own has one more, the others are unchanged
row_with : (posted : Posted) (page : Page) (bridge : ℕ) → page.bridge < length posted.pages
    → ((bridge ≡ page.bridge) × (pages_of (with_page posted page) bridge ≡ pages_of posted page.bridge ++ page ∷ []))
    ⊎ (pages_of (with_page posted page) bridge ≡ pages_of posted bridge)
row_with posted page bridge inside =
    let own = pages_of posted page.bridge ++ page ∷ [] in
    elim (cases_eq bridge page.bridge) [
      | inl same ↦ inl (same, ap (λ (k : ℕ). pages_of (with_page posted page) k) same ∙ get_or-set_same posted.pages page.bridge own [] inside)
      | inr differs ↦ inr (get_or-set_other posted.pages page.bridge bridge own [] differs)
    ]

-- the next page keeps the invariant of the pages
pub next_posted : (posted : Posted) (page : Page) → ArePosted posted → IsNextPage posted page → ArePosted (with_page posted page)
next_posted posted page before next =
    let inside : page.bridge < length posted.pages = omega (arith, before.each_bridge, next.0) in
    record {
      few_bridges = before.few_bridges;
      few_cycles = before.few_cycles;
      each_bridge = length-set posted.pages page.bridge _ ∙ before.each_bridge;
      in_cycles = λ bridge. elim (row_with posted page bridge inside) [
        | inl own ↦ omega (arith, ap length own.1, length_push (pages_of posted page.bridge) page, next.1, next.2)
        | inr same ↦ omega (arith, ap length same, before.in_cycles bridge)
      ];
      in_place = λ bridge cycle other found. elim (row_with posted page bridge inside) [
        | inl own ↦ elim (pushed_at (pages_of posted page.bridge) page other cycle (sym (ap (λ (row : List Page). slice_get row cycle) own.1) ∙ found)) [
          | inl there ↦ before.in_place bridge cycle other (ap (λ (k : ℕ). slice_get (pages_of posted k) cycle) own.0 ∙ there)
          | inr last ↦ (sym (ap (λ (p : Page). p.bridge) last.1) ∙ sym own.0, sym (ap (λ (p : Page). p.cycle.0) last.1) ∙ next.2 ∙ sym last.0)
        ]
        | inr same ↦ before.in_place bridge cycle other (sym (ap (λ (row : List Page). slice_get row cycle) same) ∙ found)
      ];
    }

-- and of their totals, with the bridge's row replaced
pub next_kept : (posted : Posted) (page : Page) (frames octets frames_after octets_after : List ℕ) (bridge : ℕ) (own row : List Page)
    → AreKeptTotals posted frames octets → bridge ≡ page.bridge → IsNextPage posted page → own ≡ get_or posted.pages bridge own
    → row ≡ own ++ page ∷ [] → AreAdded page.starts.items frames octets frames_after octets_after → AreFewTotals page.starts.items
    → AreKeptTotals (record { bridges = posted.bridges; cycles = posted.cycles; pages = set posted.pages bridge row }) frames_after octets_after
next_kept posted page frames octets frames_after octets_after bridge own row before at next is_own is_row added few =
    let inside : page.bridge < length posted.pages = omega (arith, before.posted_so.each_bridge, next.0) in
    let own_pages : own ≡ pages_of posted page.bridge =
    get_or_read posted.pages bridge own (omega (arith, inside, at)) is_own [] ∙ ap (λ (k : ℕ). pages_of posted k) at in
    let pages : set posted.pages bridge row ≡ set posted.pages page.bridge (pages_of posted page.bridge ++ page ∷ []) =
    ap (λ (k : ℕ). set posted.pages k row) at
    ∙ ap (λ (r : List Page). set posted.pages page.bridge r) (is_row ∙ ap (λ (r : List Page). r ++ page ∷ []) own_pages) in
    subst (λ (rows : List (List Page)). AreKeptTotals (record posted { pages = rows }) frames_after octets_after) (sym pages)
    (record {
      posted_so = next_posted posted page before.posted_so next;
      totals = totals_with posted.pages page.bridge page frames octets frames_after octets_after inside before.totals added few;
    })

-- replacing a row by itself changes nothing
pub same_kept : (posted : Posted) (frames octets frames_after octets_after : List ℕ) (bridge : ℕ) (own row : List Page)
    → AreKeptTotals posted frames octets → bridge < posted.bridges → own ≡ get_or posted.pages bridge own
    → row ≡ own → frames_after ≡ frames → octets_after ≡ octets
    → AreKeptTotals (record { bridges = posted.bridges; cycles = posted.cycles; pages = set posted.pages bridge row }) frames_after octets_after
same_kept posted frames octets frames_after octets_after bridge own row before of_bridge is_own is_row is_frames is_octets =
    let pages : set posted.pages bridge row ≡ posted.pages =
    ap (λ (r : List Page). set posted.pages bridge r) (is_row ∙ is_own) ∙ set-get_or posted.pages bridge own in
    let at : List (List Page) → List ℕ → List ℕ → Type 0 = λ rows fs os. AreKeptTotals (record posted { pages = rows }) fs os in
    subst (λ (rows : List (List Page)). at rows frames_after octets_after) (sym pages)
    (subst (λ (fs : List ℕ). at posted.pages fs octets_after) (sym is_frames)
    (subst (λ (os : List ℕ). at posted.pages frames os) (sym is_octets) before))

-- the totals of the most pages that there may be have room for one more
pub room_for_next : (posted : Posted) (frames octets : List ℕ) → AreKeptTotals posted frames octets → HaveTotalsRoom frames octets
room_for_next posted frames octets kept =
    let rows = posted.pages in
    let facts = kept.posted_so in
    let each : All (λ (row : List Page). length row ≤ 100000) rows = λ k d inside.
    omega (arith, facts.in_cycles k, facts.few_cycles, ap length (get_or_default rows k d [] inside)) in
    let count : count_of_pages rows ≤ 102400000 =
    omega (arith, sum_by-le (λ (row : List Page). length row) 100000 rows each, facts.each_bridge, facts.few_bridges) in
    record {
      all_frames = kept.totals.all_frames;
      all_octets = kept.totals.all_octets;
      frames_room = λ link below. omega (arith, kept.totals.few_frames link below, count);
      octets_room = λ link below. omega (arith, kept.totals.few_octets link below, count);
    }
