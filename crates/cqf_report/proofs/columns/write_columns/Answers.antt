use Rattle.std.proofs.Common.{◌≡◌, ◌<◌, ◌+◌, ℕ, [], List, ◌∙◌, sym, ap, arith, fold, get_or, length, max, rules, sum}
use Rattle.std.proofs.lemmas.List.{get_or-map}
use Rattle.cqf_lists.specs.Lists.{each_below}
use Rattle.cqf_output.proofs.WriterLemmas.{Puts-as, Puts-then, text-written}
use Rattle.cqf_laws_coverage.specs.declared.column.Column.{Column}
use Rattle.cqf_topology.specs.NodeNames.{name_of_link}
use Rattle.cqf_laws_coverage.specs.Columns.{frames_by, octets_by}
use Rattle.cqf_report.specs.Columns.{column_fields, columns_text}
use Rattle.cqf_report.specs.LinkSums.{link_header, sums_fields}
use Rattle.cqf_report.specs.Written.{line_of_fields}
use Rattle.cqf_report.proofs.LinkLines.{line_after, same_sums}
use Rattle.cqf_report.proofs.columns.write_columns.Goals as goal

pub loop-link-preserved : goal.loop-link-preserved
loop-link-preserved g c =
    let d = c.args.domain.now in
    let columns = c.args.columns.now in
    let link = c.loop-link.link in
    let column = c.index-columns-from.result in
    let line : ℕ → List ℕ = λ l. line_of_fields (column_fields d (frames_by columns) (octets_by columns) l) in
    let below : link < length columns = omega (arith, c.loop-link-test.true, c.links-link-end.ensures, c.requires) in
    let there : column ≡ get_or columns link column = c.index-columns-from.is ∙ ap (λ k. get_or columns k column) c.from.ensures in
    let frames : c.from-in-loop-link.result ≡ frames_by columns link =
    c.from-in-loop-link.ensures ∙ ap (λ (z : Column). z.frames) there ∙ sym (get_or-map (λ (z : Column). z.frames) columns link column 0 below) in
    let listed : c.as_slice-listed.result.now ≡ octets_by columns link =
    c.as_slice-listed.ensures.value ∙ ap (λ (z : Column). z.octets.items) there
    ∙ sym (get_or-map (λ (z : Column). z.octets.items) columns link column [] below) in
    let most : c.from-in-loop-link-2.result ≡ fold max 0 (octets_by columns link) =
    c.from-in-loop-link-2.ensures ∙ c.most_of.ensures ∙ ap (fold max 0) listed in
    Puts-as _ (each_below line (link + 1))
    (line_after line link
    (line_of_fields (sums_fields (name_of_link d link) c.from-in-loop-link.result c.sum_of.result c.from-in-loop-link-2.result))
    (same_sums (name_of_link d link) c.from-in-loop-link.result (frames_by columns link) c.sum_of.result (sum (octets_by columns link))
    c.from-in-loop-link-2.result (fold max 0 (octets_by columns link)) frames (c.sum_of.ensures ∙ ap sum listed) most))
    (Puts-then (each_below line link) _ c.loop-link.invariant c.put_sums.ensures)

pub returns : goal.returns
returns g c =
    let d = c.args.domain.now in
    let columns = c.args.columns.now in
    let line : ℕ → List ℕ = λ l. line_of_fields (column_fields d (frames_by columns) (octets_by columns) l) in
    let all : c.loop-link.link ≡ length d.links = omega (arith, c.loop-link-test.false, c.loop-link.auto.link-end, c.links-link-end.ensures) in
    let lines = Puts-as (each_below line c.loop-link.link) (each_below line (length d.links)) (ap (each_below line) all) c.loop-link.invariant in
    let puts = Puts-then (line_of_fields link_header) (each_below line (length d.links)) c.put_header.ensures lines in
    let names = c.close-written.ensures.same ∙ puts.same ∙ c.new-writer.ensures.same in
    text-written c.close-written.result.now (columns_text d (frames_by columns) (octets_by columns)) c.written_text.result
    (ap (λ list. list.items) c.new-reported.ensures.writer ∙ c.new.ensures.items)
    c.new-writer.ensures.opens puts c.close-written.ensures.closes c.written_text.ensures.ok (search rules) (search rules)
