use Rattle.std.proofs.Common.{◌≡◌, drop, map}
use Rattle.std.specs.List.{list_any}
use Rattle.toml.specs.View.{table_view}
use Rattle.cqf_program_files.specs.Opening.{has}
use Rattle.cqf_program_files.proofs.open.has_any.Given as goal

abbrev pub invariant-loop-key : goal.invariant-loop-key
invariant-loop-key l =
    list_any (λ key. has key (table_view l.table)) (map (λ key. key.now) (drop l.key-index l.keys))
    ≡ list_any (λ key. has key (table_view l.table)) (map (λ key. key.now) l.keys)
