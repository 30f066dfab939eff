-- The index stored under each name is that of the first of the requests so far.
use Rattle.std.proofs.Common.{take}
use Rattle.cqf_admission.specs.Names.{LeadToFirst, index_under}
use Rattle.cqf_admission.proofs.names.Names.new.Given as goal

abbrev pub invariant-loop-index : goal.invariant-loop-index
invariant-loop-index l = LeadToFirst (index_under l.indices) (take l.index l.requests)
