use Rattle.std.proofs.Common.{inl, inr, sym, ◌∙◌}
use Rattle.std.specs.Str.{is_utf8}
use Rattle.std.proofs.lemmas.Bool.{cases_Bool, false≢true}
use Rattle.std.proofs.lemmas.Str.{is_utf8-from_IsUtf8, IsUtf8-from_is_utf8}
use Rattle.cqf_program_without.proofs.tables.table_of.Goals as goal

pub returns-in-Ok : goal.returns-in-Ok
returns-in-Ok c =
    let text = c.args.text.now in
    let h = c.in-Ok.ensures.ok in
    rw (is_utf8-from_IsUtf8 text h.0, h.1)

pub returns-else-is_memory : goal.returns-else-is_memory
returns-else-is_memory c =
    let text = c.args.text.now in
    elim (cases_Bool (is_utf8 text)) [
      | inl is_text ↦
          let refused = c.in-Err.ensures.refused (λ kind. false≢true (sym c.if-is_memory.false ∙ c.is_memory.ensures.1 kind))
          (IsUtf8-from_is_utf8 text is_text) in
          rw (is_text, refused)
      | inr other ↦ rw other
    ]
