use Rattle.std.proofs.Common.{ℕ, subst, sym}
use Rattle.cqf_admission.specs.Rows.{IsCountable}
use Rattle.cqf_program_summary.proofs.Listed.{room_bounded}
use Rattle.cqf_program_summary.proofs.summary.listing.add.Goals as goal

pub add_cost-requires-clause-countable : goal.add_cost-requires-clause-countable
add_cost-requires-clause-countable c = subst (λ (n : ℕ). IsCountable n c.args.row.now) (sym c.requires.all) c.requires.summable.countable

pub add_cost-requires-clause-good : goal.add_cost-requires-clause-good
add_cost-requires-clause-good c = c.requires.summable.paced

pub add_cost-requires-clause-room : goal.add_cost-requires-clause-room
add_cost-requires-clause-room c =
    room_bounded c.args.costs.now c.args.row.now c.requires.all c.requires.bounded c.requires.summable.countable.octets c.requires.summable.countable.overhead
