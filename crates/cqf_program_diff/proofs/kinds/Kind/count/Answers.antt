use Rattle.std.proofs.Common.{◌∙◌, Bor, List, ℕ, ap, length, sym}
use Rattle.std.proofs.lemmas.List.{length-map}
use Rattle.cqf_program_diff.proofs.kinds.Kind.count.Goals as goal

pub returns : goal.returns
returns c = sym (length-map c.keys.result.now (λ (key : Bor (List ℕ)). key.now)) ∙ ap length c.keys.ensures
