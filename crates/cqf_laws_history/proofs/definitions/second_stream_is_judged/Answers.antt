use Rattle.std.proofs.Common.{refl}
use Rattle.cqf_laws_history.proofs.definitions.second_stream_is_judged.Goals as goal

pub returns : goal.returns
returns c = record {
  other_phase = refl;
  other_half = refl;
  every_twenty = refl;
  every_five = refl;
  same_phase = refl;
  same_half = refl;
  each_cycle = refl;
  no_divisor = refl;
  no_phase = refl;
  never = refl;
  one_node = refl;
  no_hop = refl;
  one_stream = refl;
  many_streams = refl;
}
