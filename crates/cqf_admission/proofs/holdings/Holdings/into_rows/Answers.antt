use Rattle.std.proofs.Common.{◌≡◌, ◌∙◌, ap, List, map, refl, sym, [], ◌∷◌}
use Rattle.std.proofs.lemmas.Iterator.Consumers.{YieldsList-end}
use Rattle.std.proofs.lemmas.Iterator.Adapters.{YieldsList-from_vec}
use Rattle.std.proofs.lemmas.Simd.{map-map}
use Rattle.std.specs.Arc.{arc_value}
use Rattle.cqf_admission.specs.declared.holdings.Stand.{Stand}
use Rattle.cqf_admission.specs.Holdings.{Standing, Stands, standing_of}
use Rattle.cqf_admission.proofs.holdings.Holdings.into_rows.Goals as goal

-- mapping each element to itself gives the same list
map_same : (stands : List Stand) → map (λ (stand : Stand). stand) stands ≡ stands
map_same [] = refl
map_same (stand ∷ stands) = ap (λ (rest : List Stand). stand ∷ rest) (map_same stands)

pub returns : goal.returns
returns c =
    let stands = c.self.inside.rows.items in
    let gives = c.into_iter-stand-iterator.ensures.into_iter_gives in
    let all = YieldsList-end (YieldsList-from_vec stands gives.0 (gives.1 ∙ c.self.inside.rows.ok.0)) c.loop-stand.yielded c.loop-stand.stand-iterator c.loop-stand.yielded_by _ c.next.new.self c.in-None.is
    c.next.ensures.steps in
    let whole : c.loop-stand.yielded ≡ stands = sym (map_same c.loop-stand.yielded) ∙ all.0 in
    c.loop-stand.invariant
    ∙ ap (map (λ (stand : Stand). arc_value stand.row)) whole
    ∙ sym (map-map (λ (stand : Standing). stand.row) standing_of stands)
    ∙ ap (λ (h : Stands). map (λ (stand : Standing). stand.row) h.rows) c.self.view_is
