use Rattle.std.proofs.Common.{cond, None, string_bytes}
use Rattle.std.proofs.lemmas.Str.{IsUtf8-string_bytes, is_utf8-from_IsUtf8}
use Rattle.cqf_network_text.proofs.ordered.text_of.Goals as goal

pub returns-in-Ok : goal.returns-in-Ok
returns-in-Ok c shallow =
    (λ i. cond (is_utf8-from_IsUtf8 (string_bytes c.in-Ok.text) (IsUtf8-string_bytes c.in-Ok.text) i) (c.in-Ok.ensures.reads_back shallow i) None)
