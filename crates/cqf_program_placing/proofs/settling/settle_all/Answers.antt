use Rattle.std.proofs.Common.{◌≡◌, ◌∙◌, ◌∷◌, [], List, ap, arith, false, length, length-append, map, ℕ, subst, sym}
use Rattle.std.proofs.lemmas.List.{map-append}
use Rattle.std.specs.Vec.Iter.{into_iter_items}
use Rattle.cqf_network.specs.StreamsText.{stream_text}
use Rattle.cqf_network.specs.declared.streams.Stream.{Stream}
use Rattle.cqf_topology.specs.DomainText.{is_among, with_front}
use Rattle.cqf_program_placing.specs.Settled.{settled_after, settled_value}
use Rattle.cqf_program_placing.proofs.SettledLemmas.{next_stands, settled_more}
use Rattle.cqf_program_placing.proofs.settling.settle_all.Goals as goal

pub add-requires : goal.add-requires
add-requires c =
    let held = c.loop-stream.held.keys in
    let next =
    next_stands c.args.at.network.now c.args.at.plan.now held (stream_text c.in-Some.stream) (settled_value c.in_ok-one.one) c.in_ok-one.ensures in
    subst (λ (n : List ℕ). is_among n held ≡ false) (sym next.own_name) next.not_held

pub loop-stream-preserved : goal.loop-stream-preserved
loop-stream-preserved c =
    let network = c.args.at.network.now in
    let plan = c.args.at.plan.now in
    let held = c.loop-stream.held.keys in
    let done = map settled_value c.loop-stream.settled.items in
    let one = c.in_ok-one.one in
    let next = next_stands network plan held (stream_text c.in-Some.stream) (settled_value one) c.in_ok-one.ensures in (
      settled_more network plan held c.add.new.self.keys (stream_text c.in-Some.stream) (map stream_text (into_iter_items c.next.new.self)) done
          (map settled_value c.push.new.self.items) (settled_value one) c.in_ok-one.ensures next.own_name c.in_ok-add.ensures.more
          (ap (map settled_value) c.in_ok-push.ensures.items ∙ map-append settled_value c.loop-stream.settled.items (one ∷ []))
          ∙ ap (λ (ss : List Stream). with_front done (settled_after network plan held (map stream_text ss))) (sym c.in-Some.ensures.steps.0)
          ∙ c.loop-stream.invariant.0,
      omega (arith, ap length c.in_ok-add.ensures.more, length-append held (one.name ∷ []), next.few),
    )
