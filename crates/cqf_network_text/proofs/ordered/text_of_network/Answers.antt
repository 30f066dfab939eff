use Rattle.std.proofs.Common.{◌≡◌, ◌∙◌, Some, None, ap, cond, string_bytes, sym}
use Rattle.std.proofs.lemmas.Str.{IsUtf8-string_bytes, is_utf8-from_IsUtf8}
use Rattle.toml.specs.Parse.{parse_document}
use Rattle.toml.specs.View.{table_view}
use Rattle.cqf_network_text.proofs.ordered.text_of_network.Goals as goal

pub returns-then-same : goal.returns-then-same
returns-then-same c shallow =
    let text = c.in_ok-text.text in
    let parsed : parse_document (string_bytes text) ≡ Some (table_view c.args.table.now) =
    ap parse_document (sym c.as_str.ensures.value) ∙ c.in_ok-same.ensures c.if-same.true in
    (λ i. cond (is_utf8-from_IsUtf8 (string_bytes text) (IsUtf8-string_bytes text) i) (parsed i) None)
