use Rattle.std.proofs.Common.{◌∙◌, ◌∷◌, ◌++◌, [], ap, arith, length, List, ℕ}
use Rattle.cqf_units.specs.declared.timing.Nanos.{Nanos}
use Rattle.cqf_model.specs.declared.frames.Sent.{Sent}
use Rattle.cqf_bridge.specs.Batch.{LinkBatch}
use Rattle.cqf_bridge.proofs.Columns.{across_pushed, columns_pushed, length_across}
use Rattle.cqf_bridge.proofs.batch.Batch.push.Goals as goal

pub invariant_of-self-2 : goal.invariant_of-self-2
invariant_of-self-2 c =
    let b = c.self.inside in
    let sent = c.args.sent in
    let starts = (rw c.unwrap.ensures at c.push.ensures.items) ∙ ap (λ (xs : List Nanos). xs ++ sent.start ∷ []) c.reserve.ensures.items in
    let frames = (rw c.unwrap-2.ensures at c.push-2.ensures.items) ∙ ap (λ (xs : List ℕ). xs ++ sent.frame ∷ []) c.reserve-2.ensures.items in
    let streams = (rw c.unwrap-3.ensures at c.push-3.ensures.items) ∙ ap (λ (xs : List ℕ). xs ++ sent.stream ∷ []) c.reserve-3.ensures.items in
    let octets = (rw c.unwrap-4.ensures at c.push-4.ensures.items) ∙ ap (λ (xs : List ℕ). xs ++ sent.octets ∷ []) c.reserve-4.ensures.items in
    columns_pushed b.starts.items b.frames.items b.streams.items b.octets.items c.self.invariant sent _ _ _ _ starts frames streams octets
    (omega (
      arith,
      c.requires,
      ap (λ (x : LinkBatch). length x.frames) c.self.view_is,
      length_across b.starts.items b.frames.items b.streams.items b.octets.items c.self.invariant,
    ))

pub returns-clause-ok : goal.returns-clause-ok
returns-clause-ok c =
    let b = c.self.inside in
    let sent = c.args.sent in
    let starts = (rw c.unwrap.ensures at c.push.ensures.items) ∙ ap (λ (xs : List Nanos). xs ++ sent.start ∷ []) c.reserve.ensures.items in
    let frames = (rw c.unwrap-2.ensures at c.push-2.ensures.items) ∙ ap (λ (xs : List ℕ). xs ++ sent.frame ∷ []) c.reserve-2.ensures.items in
    let streams = (rw c.unwrap-3.ensures at c.push-3.ensures.items) ∙ ap (λ (xs : List ℕ). xs ++ sent.stream ∷ []) c.reserve-3.ensures.items in
    let octets = (rw c.unwrap-4.ensures at c.push-4.ensures.items) ∙ ap (λ (xs : List ℕ). xs ++ sent.octets ∷ []) c.reserve-4.ensures.items in
    let across = across_pushed b.starts.items b.frames.items b.streams.items b.octets.items c.self.invariant sent _ _ _ _ starts frames streams octets in
    ap (λ (fs : List Sent). record { link = b.link; cycle = b.cycle.0; frames = fs }) across
    ∙ ap (λ (x : LinkBatch). record x { frames = x.frames ++ sent ∷ [] }) c.self.view_is
