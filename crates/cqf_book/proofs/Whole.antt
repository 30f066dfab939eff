-- The number of first cycles that every bridge has posted.
use Rattle.std.proofs.Common.{ℕ, ◌≡◌, ◌+◌, ◌<◌, ◌≤◌, [], List, length, get_or, min, inl, inr, ap, ◌∙◌, arith}
use Rattle.std.proofs.lemmas.Bool.{cases_lt}
use Rattle.std.proofs.lemmas.List.{get_or_read}
use Rattle.cqf_model.specs.declared.frames.Page.{Page}
use Rattle.cqf_book.specs.Pages.{Posted, ArePosted, AreWhole}
use Rattle.cqf_book.specs.Whole.{IsLeastBelow}

-- one bridge more
pub least_more : (rows : List (List Page)) (cycles count least next : ℕ) (own : List Page) → IsLeastBelow rows cycles count least
    → count < length rows → own ≡ get_or rows count own → next ≡ min least (length own) → IsLeastBelow rows cycles (count + 1) next
least_more rows cycles count least next own before inside is_own is_next =
    let has : length own ≡ length (get_or rows count []) = ap length (get_or_read rows count own inside is_own []) in
    record {
      within = omega (arith, before.within);
      each = λ bridge below. elim (cases_lt bridge count) [
        | inl earlier ↦ omega (arith, before.each bridge earlier)
        | inr last ↦
            let same : bridge ≡ count = omega arith in
            omega (arith, ap (λ (k : ℕ). length (get_or rows k [])) same)
      ];
      most = λ more fits all.
          let so_far : more ≤ least = before.most more fits (λ bridge below. all bridge (omega arith)) in
          omega (arith, all count (omega arith));
      some = elim (cases_lt (length own) least) [
        | inl fewer ↦ inr (count, omega arith, omega arith)
        | inr enough ↦ elim before.some [
          | inl all ↦ inl (omega arith)
          | inr one ↦ inr (one.0, omega (arith, one.1), omega (arith, one.2))
        ]
      ];
    }

-- the least number of pages over all bridges is that number
pub least_is_whole : (posted : Posted) (rows : List (List Page)) (least : ℕ) → ArePosted posted → rows ≡ posted.pages
    → IsLeastBelow rows posted.cycles (length rows) least → AreWhole posted least
least_is_whole posted rows least facts is_rows found =
    let count : length rows ≡ posted.bridges = ap length is_rows ∙ facts.each_bridge in
    let has = λ (bridge : ℕ). ap (λ (rs : List (List Page)). length (get_or rs bridge [])) is_rows in
    record {
      within = found.within;
      each = λ bridge below. omega (arith, found.each bridge (omega arith), has bridge);
      most = λ more fits all. found.most more fits (λ bridge inside. omega (arith, all bridge (omega arith), has bridge));
      least = λ is_bridge. elim found.some [
        | inl all ↦ (0, is_bridge, omega (arith, found.each 0 (omega arith), has 0, facts.in_cycles 0, all))
        | inr one ↦ (one.0, omega (arith, one.1), omega (arith, one.2, has one.0))
      ];
    }
