-- What one thread of a run puts for another: items, and then at most one Stop.
use Rattle.std.proofs.Common.{ℕ, suc, ◌≡◌, ◌≤◌, ◌+◌, ◌∷◌, ◌++◌, [], List, All, length, get_or, map, refl, sym, ap, subst, ◌∙◌, arith, inl, inr}
use Rattle.std.specs.Prelude.{drop, take}
use Rattle.std.proofs.lemmas.List.{length-append, length-map, map-append}
use Rattle.cqf_worker_loops.specs.declared.carried.Carried.{Carried}
use Rattle.cqf_worker_loops.specs.declared.carried.Carried.TheVariants.{Item, Stop}
use Rattle.cqf_worker_loops.specs.declared.link_ends.LinkEnd.{LinkEnd}
use Rattle.cqf_worker_loops.specs.PipeEnds.{End}
use Rattle.cqf_worker_loops.specs.Rows.{MayGet, MayHaveGot, wire_at, wires_of, with_items}
use Rattle.cqf_worker_loops.specs.Stops.{AreItems, AreItemsThenStop, AreStopped}
use Rattle.cqf_worker_loops.proofs.Each.{written_back}

module _ {T : Type 0} where
  -- only items were put at an end, and at a port
  abbrev pub HasItems : End (Carried T) → Type 0
  HasItems end = AreItems end.items

  abbrev pub CarriesItems : LinkEnd (End (Carried T)) → Type 0
  CarriesItems port = AreItems port.pipe.items

  -- one item more
  pub items_and_one : (xs : List (Carried T)) (x : T) → AreItems xs → AreItems (xs ++ Item x ∷ [])
  items_and_one xs x h = (h.0 ++ x ∷ [], ap (λ (ys : List (Carried T)). ys ++ Item x ∷ []) h.1 ∙ sym (map-append Item h.0 (x ∷ [])))

  -- a Stop after them, or nothing
  pub items_then_stop : (before after : End (Carried T)) → HasItems before → MayGet (Stop ∷ []) before after → AreItemsThenStop after.items
  items_then_stop before after h may =
      elim may [
        | inl same ↦ (h.0, inl (ap (λ (e : End (Carried T)). e.items) same ∙ h.1))
        | inr more ↦ (
          h.0,
          inr (ap (λ (e : End (Carried T)). e.items) more ∙ ap (λ (ys : List (Carried T)). ys ++ Stop ∷ []) h.1),
        )
      ]

  -- the same at a port
  port_then_stop : (before after : LinkEnd (End (Carried T))) → CarriesItems before → MayHaveGot Stop before after → AreItemsThenStop after.pipe.items
  port_then_stop before after h may =
      items_then_stop before.pipe after.pipe h (elim may [
        | inl same ↦ inl (ap (λ (p : LinkEnd (End (Carried T))). p.pipe) same)
        | inr more ↦ inr (ap (λ (p : LinkEnd (End (Carried T))). p.pipe) more)
      ])

  -- and at each of several
  ports_then_stop : (before after : List (LinkEnd (End (Carried T)))) → length after ≡ length before → AreStopped before after → All CarriesItems before
      → All (λ (port : LinkEnd (End (Carried T))). AreItemsThenStop port.pipe.items) after
  ports_then_stop before after many stopped items index d below =
      port_then_stop (get_or before index d) (get_or after index d) (items index d (omega (arith, below, many)))
      (stopped index d (omega (arith, below, many)))

  -- the same of ports that are written back
  pub reported_at_each : (ports first now : List (LinkEnd (End (Carried T)))) (n : ℕ) → n ≡ length ports → first ≡ ports → length now ≡ length first
      → AreStopped first now → All CarriesItems ports → AreStopped ports (take n (now ++ drop (length now) ports))
      × All (λ (port : LinkEnd (End (Carried T))). AreItemsThenStop port.pipe.items) (take n (now ++ drop (length now) ports))
  reported_at_each ports first now n many is same stopped items =
      let all : length now ≡ length ports = same ∙ ap length is in
      let back : take n (now ++ drop (length now) ports) ≡ now = written_back now ports n all many in
      let reported : AreStopped ports now = subst (λ (old : List (LinkEnd (End (Carried T)))). AreStopped old now) is stopped in (
        subst (AreStopped ports) (sym back) reported,
        subst (All (λ (port : LinkEnd (End (Carried T))). AreItemsThenStop port.pipe.items)) (sym back) (ports_then_stop ports now all reported items),
      )

  -- a port at which a Stop was put, or nothing, still has its wire
  wire_kept : (before after : LinkEnd (End (Carried T))) → MayHaveGot Stop before after → wire_at after ≡ wire_at before
  wire_kept before after may =
      elim may [
        | inl same ↦ ap wire_at same
        | inr more ↦ ap wire_at more
      ]

  -- and so does each of several
  pub wires_kept : (before after : List (LinkEnd (End (Carried T)))) → length after ≡ length before → AreStopped before after → wires_of after ≡ wires_of before
  wires_kept [] [] same stopped = refl
  wires_kept [] (q ∷ after) same stopped = absurd (omega (arith, same))
  wires_kept (p ∷ before) [] same stopped = absurd (omega (arith, same))
  wires_kept (p ∷ before) (q ∷ after) same stopped =
      let first : wire_at q ≡ wire_at p = wire_kept p q (stopped 0 p (omega arith)) in
      let rest : wires_of after ≡ wires_of before = wires_kept before after (omega (arith, same))
      (λ index d below. stopped (suc index) d (omega (arith, below))) in
      λ i. first i ∷ rest i

  -- the same of ports that are written back
  pub wires_back : (ports first now : List (LinkEnd (End (Carried T)))) (n : ℕ) → n ≡ length ports → first ≡ ports → length now ≡ length first
      → AreStopped first now → wires_of (take n (now ++ drop (length now) ports)) ≡ wires_of ports
  wires_back ports first now n many is same stopped =
      let all : length now ≡ length ports = same ∙ ap length is in
      ap wires_of (written_back now ports n all many) ∙ wires_kept first now same stopped ∙ ap wires_of is

  -- more items at an end, or nothing
  pub items_or_none : (before after : End (Carried T)) (xs : List T) → HasItems before → MayGet (map Item xs) before after
      → HasItems after × (length after.items ≤ length before.items + length xs)
  items_or_none before after xs h may =
      elim may [
        | inl same ↦
            let as_many : length after.items ≡ length before.items = ap (λ (e : End (Carried T)). length e.items) same in
            (subst HasItems (sym same) h, omega (arith, as_many))
        | inr more ↦
            let as_many : length after.items ≡ length (before.items ++ map Item xs) = ap (λ (e : End (Carried T)). length e.items) more in
            let all : HasItems (with_items before (map Item xs)) =
            (h.0 ++ xs, ap (λ (ys : List (Carried T)). ys ++ map Item xs) h.1 ∙ sym (map-append Item h.0 xs)) in
            (subst HasItems (sym more) all, omega (arith, as_many, length-append before.items (map Item xs), length-map xs (λ (x : T). Item x)))
      ]
