use Rattle.std.proofs.Common.{◌≡◌, ◌∙◌, ◌-◌, ◌<◌, suc, ap, arith, length, map, sym}
use Rattle.std.specs.Prelude.{string_bytes}
use Rattle.std.proofs.lemmas.List.{get_or-map, length-map}
use Rattle.cqf_program_without.proofs.Branches.{last_is}
use Rattle.cqf_program_without.proofs.streams.last_name.Goals as goal

pub returns-in-len1-up : goal.returns-in-len1-up
returns-in-len1-up c =
    let path = c.args.path.now in
    let k = length path - 1 in
    let last = c.last-item.result in
    let some = c.in-len1-up.len_at_least in
    let inside : k < length path = omega (arith, some) in
    let all : length (map string_bytes path) ≡ length path = length-map path string_bytes in
    let end : suc k ≡ length (map string_bytes path) = omega (arith, some, all) in
    c.as_str.ensures.value
    ∙ sym (last_is (map string_bytes path) k (string_bytes last) end
    ∙ get_or-map string_bytes path k last (string_bytes last) inside ∙ ap string_bytes (sym c.last-item.is))
