use Rattle.std.proofs.Common.{◌≡◌, ◌∙◌, List, None, ap, subst}
use Rattle.std.specs.BTreeMap.{is_at}
use Rattle.std.specs.Map.{lookup}
use Rattle.toml.specs.View.{members_view}
use Rattle.toml.proofs.Views.{Entry}
use Rattle.cqf_program_without.proofs.Taking.{compare, take_is_remove}
use Rattle.cqf_program_without.proofs.reading.take_key.Goals as goal

-- the map lacks the key now
pub returns : goal.returns
returns c =
    let removed = c.remove-before.ensures.entries in
    ap members_view removed
    ∙ take_is_remove c.args.key.now c.args.table.now.entries
    (subst (λ (es : List Entry). lookup (is_at (compare c.args.key.now)) es ≡ None) removed c.remove-before.ensures.updates.1)
