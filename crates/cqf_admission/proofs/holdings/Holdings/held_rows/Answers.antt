use Rattle.std.proofs.Common.{◌≡◌, ◌∙◌, ◌+◌, ◌<◌, ◌≤◌, ◌++◌, ◌∷◌, [], ℕ, List, map, filter, take, get_or, length, ap, sym, subst, arith}
use Rattle.std.specs.Arc.{arc_value}
use Rattle.std.specs.Prelude.{Contains}
use Rattle.std.proofs.lemmas.List.{get_or_default, length-map, take_all, take_more}
use Rattle.cqf_model.specs.declared.topology.Row.{Row}
use Rattle.cqf_admission.specs.Holdings.{IsHeldAt, Standing, Stands, numbers_from, standing_of}
use Rattle.cqf_admission.specs.declared.holdings.Stand.{Stand}
use Rattle.cqf_admission.proofs.HeldNumbers.{held_in_place, held_many, held_of_number}
use Rattle.cqf_admission.proofs.Lists.{mapped_there}
use Rattle.cqf_admission.proofs.MappedRows.{mapped_more}
use Rattle.cqf_admission.proofs.holdings.Holdings.held_rows.Goals as goal

-- the rows of the held streams
abbrev wanted : List Stand → List Row
wanted stands = map (λ (stand : Standing). stand.row) (filter (λ (stand : Standing). stand.held) (map standing_of stands))

wanted_many : (stands : List Stand) (held : List ℕ) → held ≡ numbers_from 0 (map standing_of stands) → length (wanted stands) ≡ length held
wanted_many stands held are =
    length-map (filter (λ (stand : Standing). stand.held) (map standing_of stands)) (λ (stand : Standing). stand.row)
    ∙ held_many 0 (map standing_of stands) ∙ sym (ap (λ (ns : List ℕ). length ns) are)

module _ (stands : List Stand) (held : List ℕ) (are : held ≡ numbers_from 0 (map standing_of stands)) (index number : ℕ) (low : index < length held)
    (is : number ≡ get_or held index 0) where
  is_there : number ≡ get_or held index number
  is_there = is ∙ get_or_default held index 0 number low

  -- a listed number is that of a held stream
  at_number : IsHeldAt (map standing_of stands) number
  at_number =
      let among : Contains held number = (index, low, sym is_there) in
      held_of_number (map standing_of stands) number (subst (λ (ns : List ℕ). Contains ns number) are among)

  inside : number < length stands
  inside = omega (arith, at_number.inside, length-map stands standing_of)

  -- the row of that stream is the next one
  next_is : (stand : Stand) → stand ≡ get_or stands number stand → get_or (wanted stands) index (arc_value stand.row) ≡ arc_value stand.row
  next_is stand there =
      mapped_there (λ (s : Standing). s.row) (filter (λ (s : Standing). s.held) (map standing_of stands)) index (standing_of stand) (arc_value stand.row)
      (omega (
        arith,
        low,
        wanted_many stands held are,
        length-map (filter (λ (s : Standing). s.held) (map standing_of stands)) (λ (s : Standing). s.row),
      ))
      (held_in_place (map standing_of stands) index number (standing_of stand) (omega (arith, low, ap (λ (ns : List ℕ). length ns) are))
      (is_there ∙ ap (λ (ns : List ℕ). get_or ns index number) are) (sym (mapped_there standing_of stands number stand (standing_of stand) inside there)))

  next_row : {X : Type 0} (row_in : X → Row) (stand : Stand) → stand ≡ get_or stands number stand → (rows after : List X) (row : X) →
      map row_in rows ≡ take index (wanted stands) → row_in row ≡ arc_value stand.row → after ≡ rows ++ row ∷ [] →
      map row_in after ≡ take (index + 1) (wanted stands)
  next_row row_in stand there rows after row so_far like grown =
      mapped_more row_in rows after row (arc_value stand.row) grown like ∙ ap (λ (rs : List Row). rs ++ arc_value stand.row ∷ []) so_far
      ∙ sym (take_more (wanted stands) index (arc_value stand.row) (omega (arith, low, wanted_many stands held are))
      ∙ ap (λ (r : Row). take index (wanted stands) ++ r ∷ []) (next_is stand there))

pub index-requires : goal.index-requires
index-requires c =
    let number = get_or c.deref-number-items.result.now c.loop-number.number-index 0 in
    let number_is : number ≡ get_or c.self.inside.held.items c.loop-number.number-index 0 =
    ap (λ (ns : List ℕ). get_or ns c.loop-number.number-index 0) c.deref-number-items.ensures.value in
    let low : c.loop-number.number-index < length c.self.inside.held.items =
    omega (arith, c.loop-number-test.true, ap (λ (ns : List ℕ). length ns) c.deref-number-items.ensures.value) in
    let there : number < length c.self.inside.rows.items =
    inside c.self.inside.rows.items c.self.inside.held.items c.self.invariant.numbers c.loop-number.number-index number low number_is in
    omega (arith, there, c.self.inside.rows.ok.0)

pub loop-number-preserved : goal.loop-number-preserved
loop-number-preserved c =
    let number = get_or c.deref-number-items.result.now c.loop-number.number-index 0 in
    let number_is : number ≡ get_or c.self.inside.held.items c.loop-number.number-index 0 =
    ap (λ (ns : List ℕ). get_or ns c.loop-number.number-index 0) c.deref-number-items.ensures.value in
    let low : c.loop-number.number-index < length c.self.inside.held.items =
    omega (arith, c.loop-number-test.true, ap (λ (ns : List ℕ). length ns) c.deref-number-items.ensures.value) in
    next_row c.self.inside.rows.items c.self.inside.held.items c.self.invariant.numbers c.loop-number.number-index number low number_is
    (λ row. arc_value row) c.index.result.now c.index.ensures c.loop-number.rows.items c.push.new.self.items c.in_ok-try_clone.field-0
    c.loop-number.invariant c.in_ok-try_clone.ensures c.in_ok-push.ensures.items

pub returns : goal.returns
returns c =
    let stands = c.self.inside.rows.items in
    let held = c.self.inside.held.items in
    let all : length (wanted stands) ≤ c.loop-number.number-index =
    omega (
      arith,
      c.loop-number-test.false,
      wanted_many stands held c.self.invariant.numbers,
      ap (λ (ns : List ℕ). length ns) c.deref-number-items.ensures.value,
    ) in
    c.loop-number.invariant ∙ take_all c.loop-number.number-index (wanted stands) all
    ∙ ap (λ (h : Stands). map (λ (stand : Standing). stand.row) (filter (λ (stand : Standing). stand.held) h.rows)) c.self.view_is
