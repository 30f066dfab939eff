use Rattle.std.proofs.Common.{◌∙◌, ◌++◌, ℕ, ap}
use Rattle.std.specs.Prelude.{Vec}
use Rattle.std.specs.declared.alloc.Global.{Global}
use Rattle.cqf_program_diff.proofs.command.file_line.Goals as goal

pub returns : goal.returns
returns c =
    let start = ap (λ (text : Vec ℕ Global). text.items) c.into_bytes-text.ensures.value ∙ c.in_ok-start.ensures.ok in
    c.in_ok-extend_from_slice.ensures.items ∙ (λ i. start i ++ c.after_mark.ensures i)
