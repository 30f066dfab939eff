-- Lists of pages that say the same, index by index and part by part.
use Rattle.std.proofs.Common.{ℕ, ◌≡◌, ◌<◌, ◌++◌, ◌∙◌, List, ap, arith, drop, get_or, length, map, sym, take}
use Rattle.std.proofs.Math.ListN.{get_or-map}
use Rattle.std.proofs.Math.Seq.{drop-length}
use Rattle.std.proofs.lemmas.List.{drop-append-le, drop-map, get_or_read, map-append, take-append-drop, take-append-le, take-map, take_all}
use Rattle.cqf_model.specs.declared.frames.Page.{Page}
use Rattle.cqf_book.specs.Shares.{Said, said}
use Rattle.cqf_book.proofs.Copying.{said_count}

-- at each index they have pages that say the same
pub alike_at : (pages others : List Page) → map said pages ≡ map said others → (index : ℕ) (page other : Page) → index < length pages →
    page ≡ get_or pages index page → other ≡ get_or others index other → said page ≡ said other
alike_at pages others same index page other inside is is_other =
    let there : index < length others = omega (arith, inside, said_count pages others (sym same)) in
    ap said is ∙ sym (get_or-map said pages index page) ∙ ap (λ (row : List Said). get_or row index (said page)) same
    ∙ get_or-map said others index page ∙ sym (ap said (get_or_read others index other there is_other page))

module _ (pages earlier later : List Page) where
  -- the number of earlier pages
  abbrev many : ℕ
  many = length earlier

  -- pages that say what the earlier and the later ones say agree with the earlier ones at the front
  pub front_alike : map said pages ≡ map said (earlier ++ later) → map said (take many pages) ≡ map said earlier
  front_alike same = sym (take-map said many pages) ∙ ap (take many) same ∙ take-map said many (earlier ++ later)
      ∙ ap (map said) (take-append-le many earlier later (omega arith) ∙ take_all many earlier (omega arith))

  -- and with the later ones after that
  pub back_alike : map said pages ≡ map said (earlier ++ later) → map said (drop many pages) ≡ map said later
  back_alike same = sym (drop-map said many pages) ∙ ap (drop many) same ∙ drop-map said many (earlier ++ later)
      ∙ ap (map said) (drop-append-le many earlier later (omega arith) ∙ ap (λ (row : List Page). row ++ later) (drop-length earlier))

  -- and the other way round
  pub parts_alike : map said (take many pages) ≡ map said earlier → map said (drop many pages) ≡ map said later →
      map said pages ≡ map said (earlier ++ later)
  parts_alike front back = ap (map said) (sym (take-append-drop many pages)) ∙ map-append said (take many pages) (drop many pages)
      ∙ (λ i. front i ++ back i) ∙ sym (map-append said earlier later)
