-- Each call adds one with the same act.
use Rattle.std.proofs.Common.{◌∙◌, ◌++◌, ◌∷◌, [], map, ap, sym, append_assoc}
use Rattle.std.proofs.lemmas.List.{map-append}
use Rattle.cqf_admission.specs.Script.{called_of}
use Rattle.cqf_admission.proofs.calls.plain_calls.Goals as goal

pub loop-call-preserved : goal.loop-call-preserved
loop-call-preserved c =
    let call = c.in-Some.call in
    let own = c.in_ok-plain_call.field-0 in
    let done = c.loop-call.plain.items in (
      append_assoc c.loop-call.yielded (call ∷ []) _ ∙ ap (λ rest. c.loop-call.yielded ++ rest) (sym c.in-Some.ensures.steps.0) ∙ c.loop-call.invariant.0,
      ap (map called_of) c.in_ok-push.ensures.items ∙ map-append called_of done ((call.0, own) ∷ [])
          ∙ (λ i. c.loop-call.invariant.1 i ++ (call.0, c.in_ok-plain_call.ensures i) ∷ [])
          ∙ sym (map-append called_of c.loop-call.yielded (call ∷ [])),
    )
