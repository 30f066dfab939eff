use Rattle.std.proofs.Common.{◌≡◌, ◌∙◌, ℕ, Some, ap}
use Rattle.cqf_network.specs.StreamsText.{stream_text}
use Rattle.cqf_edge.specs.declared.entrances.Entrance.{Entrance}
use Rattle.cqf_edge.specs.declared.entrances.Entrance.TheVariants.{ByAccess}
use Rattle.cqf_edge.specs.Uses.{handed_over}
use Rattle.cqf_edge.proofs.Handing.{is_handed}
use Rattle.cqf_edge.proofs.streams.handed_at.Goals as goal

pub returns-in-Some-ByAccess-clause-inside : goal.returns-in-Some-ByAccess-clause-inside
returns-in-Some-ByAccess-clause-inside c =
    let stream = stream_text c.args.stream.now in
    let index = c.in-Some-ByAccess.index in
    let first : c.in-Some-ByAccess.field-0 ≡ ByAccess index = rw c.in-Some-ByAccess.is at c.in-Some-ByAccess.field-0-is in
    let handed = c.over.ensures.value ∙ ap (λ (n : ℕ). handed_over n index c.unwrap_or.result stream.shortest stream.traffic) c.overhead.ensures.value in
    is_handed c.args.network.now stream c.args.entrance index c.unwrap_or.result c.over.result c.requires.inside c.requires.written
    (c.in-Some-ByAccess.is ∙ ap (λ (e : Entrance). Some e) first) handed c.over.ensures.sizes c.over.ensures.longest
