use Rattle.std.proofs.Common.{◌+◌, ◌<◌, ◌≢◌, ◌∙◌, ℕ, List, All, arith, ap, length, subst, sym}
use Rattle.std.specs.Prelude.{AllPairs, slice_index_or}
use Rattle.cqf_admission.specs.Sums.{part_on}
use Rattle.cqf_model.specs.declared.topology.Hop.{Hop}
use Rattle.cqf_model.specs.Table.{links_in, links_of}
use Rattle.cqf_program_plans.proofs.Listed.{room_where}
use Rattle.cqf_program_plans.proofs.load.listing.add_where.Goals as goal

pub add_on-requires-clause-inside : goal.add_on-requires-clause-inside
add_on-requires-clause-inside c =
    subst (λ (hops : List Hop). All (λ (l : ℕ). l < length c.args.by_link.now.items) (links_in hops)) (sym c.as_slice.ensures.value)
    (subst (λ (n : ℕ). All (λ (l : ℕ). l < n) (links_of c.args.row.now)) (sym c.requires.all) c.requires.countable.inside)

pub add_on-requires-clause-apart : goal.add_on-requires-clause-apart
add_on-requires-clause-apart c =
    subst (λ (hops : List Hop). AllPairs (λ (a b : ℕ). a ≢ b) (links_in hops)) (sym c.as_slice.ensures.value) c.requires.countable.apart

pub add_on-requires-clause-room : goal.add_on-requires-clause-room
add_on-requires-clause-room c = λ l low.
    room_where c.args.by_link.now.items (links_in c.as_slice.result.now) c.args.number l (omega arith)
    (c.requires.low l (omega (arith, low, c.requires.all)))

pub returns : goal.returns
returns c = record {
  all = c.add_on.ensures.as_many ∙ c.requires.all;
  each = λ l low. c.add_on.ensures.each l (omega (arith, low, c.requires.all))
      ∙ ap (λ (hops : List Hop). slice_index_or c.args.by_link.now.items l 0 + part_on (links_in hops) c.args.number l) c.as_slice.ensures.value;
}
