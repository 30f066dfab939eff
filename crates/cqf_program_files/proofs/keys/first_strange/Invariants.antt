use Rattle.std.proofs.Common.{◌≡◌, map}
use Rattle.toml.specs.View.{members_view}
use Rattle.cqf_program_files.specs.Keys.{first_strange}
use Rattle.cqf_program_files.proofs.keys.first_strange.Given as goal

abbrev pub invariant-loop-key : goal.invariant-loop-key
invariant-loop-key l =
    (goal.iterator-loop-key).can_next l.key-iterator ×
    (goal.iterator-loop-key).is_finite l.key-iterator ×
    (first_strange (map (λ it. it.now) l.known) (members_view l.key-iterator) ≡ first_strange (map (λ it. it.now) l.known) (members_view l.table.entries))
