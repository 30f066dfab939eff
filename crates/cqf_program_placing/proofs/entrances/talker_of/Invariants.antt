-- The first access link of the station is among the rest.
use Rattle.std.proofs.Common.{◌≡◌, drop, find}
use Rattle.std.specs.Prelude.{◌==◌}
use Rattle.cqf_network.specs.declared.domain.TalkerLink.{TalkerLink}
use Rattle.cqf_program_placing.proofs.entrances.talker_of.Given as goal

abbrev pub invariant-loop-talker : goal.invariant-loop-talker
invariant-loop-talker l =
    find (λ (talker : TalkerLink). talker.station == l.station) (drop l.talker-index l.talker-items)
    ≡ find (λ (talker : TalkerLink). talker.station == l.station) l.talker-items
