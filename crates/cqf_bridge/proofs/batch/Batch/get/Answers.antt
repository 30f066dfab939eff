use Rattle.std.proofs.Common.{◌∙◌, ap, arith, length, slice_get, sym, List, ℕ}
use Rattle.cqf_units.specs.declared.timing.Nanos.{Nanos}
use Rattle.cqf_bridge.specs.Batch.{LinkBatch}
use Rattle.cqf_bridge.proofs.Columns.{across_at, length_across}
use Rattle.cqf_bridge.proofs.batch.Batch.get.Goals as goal

pub at-requires : goal.at-requires
at-requires c =
    let b = c.self.inside in
    omega (
      arith,
      c.requires,
      ap (λ (x : LinkBatch). length x.frames) c.self.view_is,
      ap (λ (xs : List Nanos). length xs) c.as_slice.ensures.value,
      length_across b.starts.items b.frames.items b.streams.items b.octets.items c.self.invariant,
    )

pub at-requires-2 : goal.at-requires-2
at-requires-2 c =
    let b = c.self.inside in
    omega (
      arith,
      c.requires,
      ap (λ (x : LinkBatch). length x.frames) c.self.view_is,
      ap (λ (xs : List ℕ). length xs) c.as_slice-2.ensures.value,
      c.self.invariant.frames_beside,
      length_across b.starts.items b.frames.items b.streams.items b.octets.items c.self.invariant,
    )

pub at-requires-3 : goal.at-requires-3
at-requires-3 c =
    let b = c.self.inside in
    omega (
      arith,
      c.requires,
      ap (λ (x : LinkBatch). length x.frames) c.self.view_is,
      ap (λ (xs : List ℕ). length xs) c.as_slice-3.ensures.value,
      c.self.invariant.streams_beside,
      length_across b.starts.items b.frames.items b.streams.items b.octets.items c.self.invariant,
    )

pub at-requires-4 : goal.at-requires-4
at-requires-4 c =
    let b = c.self.inside in
    omega (
      arith,
      c.requires,
      ap (λ (x : LinkBatch). length x.frames) c.self.view_is,
      ap (λ (xs : List ℕ). length xs) c.as_slice-4.ensures.value,
      c.self.invariant.octets_beside,
      length_across b.starts.items b.frames.items b.streams.items b.octets.items c.self.invariant,
    )

pub returns : goal.returns
returns c =
    let b = c.self.inside in
    let index = c.args.index in
    ap (λ (x : LinkBatch). slice_get x.frames index) (sym c.self.view_is)
    ∙ across_at b.starts.items b.frames.items b.streams.items b.octets.items c.self.invariant index _
    (ap (λ (xs : List Nanos). slice_get xs index) (sym c.as_slice.ensures.value) ∙ c.at.ensures)
    (ap (λ (xs : List ℕ). slice_get xs index) (sym c.as_slice-2.ensures.value) ∙ c.at-2.ensures)
    (ap (λ (xs : List ℕ). slice_get xs index) (sym c.as_slice-3.ensures.value) ∙ c.at-3.ensures)
    (ap (λ (xs : List ℕ). slice_get xs index) (sym c.as_slice-4.ensures.value) ∙ c.at-4.ensures)
