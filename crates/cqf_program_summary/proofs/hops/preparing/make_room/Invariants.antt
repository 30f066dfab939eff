-- There is room for the rounds so far.
use Rattle.std.proofs.Common.{ℕ, ◌≡◌, ◌<◌, List, get_or}
use Rattle.std.specs.Prelude.{min, vec_capacity}
use Rattle.cqf_model.specs.declared.frames.Started.{Started}
use Rattle.cqf_program_summary.specs.Hops.Rounds.{HasRoom, StandsAt, no_round, round_before, source_of}
use Rattle.cqf_program_summary.proofs.hops.preparing.make_room.Given as goal

abbrev pub invariant-loop-round : goal.invariant-loop-round
invariant-loop-round l = record {
  reported : l.under_way.pass.reported ≡ min l.under_way.at.cycles l.under_way.pass.basis.cycles;
  at : l.under_way.at ≡ round_before l.rounds l.round-index;
  rooms : (starts : List Started) → StandsAt starts (source_of l.run) l.fn.under_way → StandsAt starts (source_of l.run) l.under_way
      × ((k : ℕ) → k < l.round-index → HasRoom starts (source_of l.run) (round_before l.rounds k) (get_or l.rounds k no_round) (vec_capacity l.under_way.kept)
      (vec_capacity l.under_way.here));
}
