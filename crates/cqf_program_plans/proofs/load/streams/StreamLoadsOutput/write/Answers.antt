use Rattle.std.proofs.Common.{◌≡◌, ◌++◌, ◌∙◌, List, ap, arith, length}
use Rattle.cqf_lists.specs.Lists.{each_below}
use Rattle.cqf_model.specs.declared.topology.Row.{Row}
use Rattle.cqf_output.specs.Edge.{IsWritten, writing}
use Rattle.cqf_output.proofs.WriterLemmas.{IsWritten-written, Puts-as, Puts-then}
use Rattle.cqf_report.specs.Written.{line_of_fields}
use Rattle.cqf_program_plans.specs.Load.Streams.{share_lines_at, stream_lines_on, streams_header, text_of_streams}
use Rattle.cqf_program_plans.proofs.load.streams.StreamLoadsOutput.write.Goals as goal

pub returns : goal.returns
returns g c =
    let inside = c.self.inside in
    let d = inside.domain in
    let header = line_of_fields streams_header in
    let streams = each_below (stream_lines_on d inside.rows.items) (length d.links) in
    let shares = each_below (share_lines_at inside.access.items inside.shares.items) (length inside.access.items) in
    let put_streams = Puts-as _ streams (ap (λ (rows : List Row). each_below (stream_lines_on d rows) (length d.links)) c.as_slice.ensures.value)
    c.put_streams.ensures in
    let is_shares : each_below (share_lines_at c.as_slice-2.result.now c.as_slice-3.result.now) (length c.as_slice-2.result.now) ≡ shares =
    λ i. each_below (share_lines_at (c.as_slice-2.ensures.value i) (c.as_slice-3.ensures.value i)) (length (c.as_slice-2.ensures.value i)) in
    let put_shares = Puts-as _ shares is_shares c.put_shares.ensures in
    let all = Puts-then header (streams ++ shares) c.put_streams_header.ensures (Puts-then streams shares put_streams put_shares) in
    let put = Puts-as _ (text_of_streams c.args.self) (ap text_of_streams c.self.view_is) all in
    let done : IsWritten (writing g.W.Write.contents c.args.reported.now c.close-written.result.now) (text_of_streams c.args.self) =
    IsWritten-written g.W.Write.contents c.args.reported.now c.new-writer.result c.put_shares.new.writer c.close-written.result.now _
    c.new-writer.ensures.opens put c.close-written.ensures.closes in
    let names = c.close-written.ensures.same ∙ c.put_shares.ensures.same ∙ c.put_streams.ensures.same ∙ c.put_streams_header.ensures.same ∙ c.new-writer.ensures.same in
    grind (arith, done, names)
