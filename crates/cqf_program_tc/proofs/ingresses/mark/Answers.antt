use Rattle.std.proofs.Common.{ℕ, Some, arith, set, subst, sym, true}
use Rattle.cqf_program_tc.proofs.Streams.{notes_some}
use Rattle.cqf_program_tc.specs.Ingresses.{NotesIngress}
use Rattle.cqf_program_tc.proofs.ingresses.mark.Goals as goal

pub returns : goal.returns
returns c = subst (λ (n : ℕ). NotesIngress c.args.seen.now (Some c.args.link) (set c.args.seen.now n true)) (sym c.from.ensures)
    (notes_some c.args.seen.now c.args.link (omega arith))
