-- A name is UTF-8, so reading it as text can't fail.
use Rattle.std.proofs.Common.{◌≡◌, true, arith}
use Rattle.std.proofs.lemmas.Grind.{common_steps}
use Rattle.cqf_units.specs.Name.{is_name}
use Rattle.cqf_units.proofs.NameText.{name-utf8}
use Rattle.cqf_units.proofs.names.Name.as_str.Goals as goal

pub unreachable-requires : goal.unreachable-requires
unreachable-requires c =
    let form : is_name c.as_bytes.result.now ≡ true = grind (arith, common_steps) in
    c.in-Err.ensures.cases.0 (name-utf8 c.as_bytes.result.now form)
