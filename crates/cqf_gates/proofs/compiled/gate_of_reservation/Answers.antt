-- The entries form a list.
use Rattle.std.proofs.Common.{◌≡◌, Ok, ap, ◌∙◌}
use Rattle.cqf_gates.proofs.MadeSpans.{put_together, spans_made}
use Rattle.cqf_gates.specs.ReservedSpans.{reserved_spans}
use Rattle.cqf_gates.specs.StreamGate.{stream_list_of}
use Rattle.cqf_gates.proofs.compiled.gate_of_reservation.Goals as goal

pub unreachable-requires : goal.unreachable-requires
unreachable-requires c =
    let n = c.args.cycle_time.0 in
    let reserved = c.args.reserved.0 in
    let spans = reserved_spans n reserved c.args.pace c.args.hop_number in
    let are = put_together n reserved c.args.pace c.args.hop_number c.from-pause.result c.from.result c.from-2.result c.new-spans.result c.close.new.self
    c.open.new.self c.open_again.new.self c.close-2.new.self c.from-pause.ensures c.from.ensures c.from-2.ensures c.new-spans.ensures c.close.ensures
    c.open.ensures c.open_again.ensures c.close-2.ensures in
    let made : c.new.result ≡ Ok spans = c.new.ensures ∙ ap stream_list_of (c.entries.ensures ∙ are) ∙ spans_made n reserved c.args.pace c.args.hop_number c.requires.some in
    cc (made, c.in-Err.is)
