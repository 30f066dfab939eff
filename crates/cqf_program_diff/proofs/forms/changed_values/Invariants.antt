-- The lines of the keys so far.
use Rattle.std.proofs.Common.{◌≡◌, []}
use Rattle.std.specs.Prelude.{slice_index_or, string_bytes}
use Rattle.cqf_lists.specs.Lists.{each_below}
use Rattle.cqf_program_diff.specs.Changes.{changed_value, value_of}
use Rattle.cqf_program_diff.specs.Kinds.{keys_of}
use Rattle.cqf_program_diff.proofs.forms.changed_values.Given as goal

abbrev pub invariant-loop-index : goal.invariant-loop-index
invariant-loop-index l =
    string_bytes l.text
    ≡ each_below (λ index. changed_value l.kind l.before.name (slice_index_or (keys_of l.kind) index []) (value_of l.before index) (value_of l.after index)) l.index
