use Rattle.std.proofs.Common.{◌≡◌, ◌∙◌, ap, get_or, sym}
use Rattle.cqf_trace.specs.declared.traces.TransmissionKind.{TransmissionKind}
use Rattle.cqf_trace.specs.Traces.{marks_at}
use Rattle.cqf_trace.proofs.Held.{background_there, starts_there}
use Rattle.cqf_trace.proofs.traces.Traces.marks.Goals as goal

pub returns-in-Stream : goal.returns-in-Stream
returns-in-Stream c =
    let trace = c.index-as_slice-from.result in
    let stands : trace ≡ get_or c.args.self.now.links.items c.args.link trace =
    c.index-as_slice-from.is ∙ λ i. get_or (c.as_slice.ensures.value i) (c.from.ensures i) trace in
    c.as_slice-in-Stream.ensures.value
    ∙ starts_there c.args.self.now.links.items c.args.link trace c.requires.by_number c.requires.inside stands
    ∙ sym (ap (λ (kind : TransmissionKind). marks_at kind c.args.self.now c.args.link) c.in-Stream.is)

pub returns-in-Background : goal.returns-in-Background
returns-in-Background c =
    let trace = c.index-as_slice-from.result in
    let stands : trace ≡ get_or c.args.self.now.links.items c.args.link trace =
    c.index-as_slice-from.is ∙ λ i. get_or (c.as_slice.ensures.value i) (c.from.ensures i) trace in
    c.as_slice-in-Background.ensures.value
    ∙ background_there c.args.self.now.links.items c.args.link trace c.requires.by_number c.requires.inside stands
    ∙ sym (ap (λ (kind : TransmissionKind). marks_at kind c.args.self.now c.args.link) c.in-Background.is)
