use Rattle.std.proofs.Common.{rules}
use Rattle.std.specs.Prelude.{nat_lt}
use Rattle.std.proofs.lemmas.Fn.{filter_same}
use Rattle.cqf_program_summary.specs.declared.hops.legs.Leg.{Leg}
use Rattle.cqf_program_summary.specs.Hops.Legs.{frame_of}
use Rattle.cqf_program_summary.proofs.hops.steps.keep_after.Goals as goal

pub returns-clause-legs : goal.returns-clause-legs
returns-clause-legs c = filter_same _ (λ (x : Leg). nat_lt c.args.frames (frame_of x)) _ (λ x b f q. search rules) _ _ c.retain.ensures.filtered
