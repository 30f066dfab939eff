use Rattle.std.proofs.Common.{◌≡◌, ◌∙◌, ℕ, List, ap, arith, length, map}
use Rattle.cqf_admission.specs.Holdings.{Stands, held_count, standing_of}
use Rattle.cqf_admission.proofs.HeldNumbers.{numbers_count}
use Rattle.cqf_admission.proofs.holdings.Holdings.count.Goals as goal

pub returns : goal.returns
returns c =
    let many : c.len.result ≡ held_count (map standing_of c.self.inside.rows.items) =
    omega (
      arith,
      c.len.ensures,
      c.self.inside.held.ok.0,
      ap (λ (ns : List ℕ). length ns) c.self.invariant.numbers,
      numbers_count 0 (map standing_of c.self.inside.rows.items),
    ) in
    many ∙ ap (λ (h : Stands). held_count h.rows) c.self.view_is
