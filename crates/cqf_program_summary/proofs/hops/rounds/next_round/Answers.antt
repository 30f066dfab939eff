use Rattle.std.proofs.Common.{ℕ, ◌≡◌, ◌+◌, ◌<◌, ◌≤◌, ◌⊎◌, arith, inl, inr}
use Rattle.std.proofs.lemmas.Bool.{cases_lt}
use Rattle.cqf_program_summary.proofs.hops.rounds.next_round.Goals as goal

pub index_after-frames-requires-clause-first : goal.index_after-frames-requires-clause-first
index_after-frames-requires-clause-first c = λ offer at. omega (arith, c.cycle_there.ensures.is offer at, c.from.ensures)

pub drops_before-requires-clause-first : goal.drops_before-requires-clause-first
drops_before-requires-clause-first c = λ x among. omega (arith, c.requires.after.dropped x among, c.index_after-frames.ensures.later)

pub returns-clause-next : goal.returns-clause-next
returns-clause-next c = record {
  cycles_later = omega arith;
  frames_later = omega (arith, c.index_after-frames.ensures.later);
  drops_later = c.drops_before.ensures.later;
  goes_on = record {
    frames_within = c.index_after-frames.ensures.within;
    drops_within = c.drops_before.ensures.within;
    whole = λ index offer below at. elim (cases_lt index c.args.before.frames) [
      | inl early ↦ omega (arith, c.requires.after.whole index offer early at)
      | inr late ↦ omega (arith, c.index_after-frames.ensures.before index offer late below at, c.from-2.ensures)
    ];
    dropped = c.drops_before.ensures.before;
    not_yet = c.drops_before.ensures.following;
  };
}
