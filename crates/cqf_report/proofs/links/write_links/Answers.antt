use Rattle.std.proofs.Common.{◌≡◌, ℕ, List, Vec, Global, ◌∙◌, ◌+◌, ◌<◌, subst, sym, ap, arith, length, rules}
use Rattle.std.specs.Prelude.{slice_index}
use Rattle.std.proofs.lemmas.List.{get_or_default}
use Rattle.cqf_lists.specs.ByNumber.{lists_of}
use Rattle.cqf_lists.specs.Lists.{each_below}
use Rattle.cqf_model.specs.Book.{contents_of}
use Rattle.cqf_model.specs.OnLinks.{frames_on, octets_on}
use Rattle.cqf_model.specs.declared.frames.Started.{Started}
use Rattle.cqf_output.proofs.WriterLemmas.{Puts-as, Puts-then, text-written}
use Rattle.cqf_report.specs.ByLink.{AreListsByLink}
use Rattle.cqf_laws_coverage.specs.InOneCycle.{most_on}
use Rattle.cqf_report.specs.LinkSums.{link_fields, link_header, links_text}
use Rattle.cqf_report.specs.Written.{line_of_fields}
use Rattle.cqf_report.proofs.LinkLines.{one_line_more}
use Rattle.cqf_report.proofs.links.write_links.Goals as goal

pub loop-link-preserved : goal.loop-link-preserved
loop-link-preserved g c =
    let d = c.args.domain.now in
    let starts = c.args.book.now.starts.items in
    let link = c.loop-link.link in
    let value = c.as_slice-starts.ensures.value in
    let line : ℕ → List ℕ = λ l. line_of_fields (link_fields d starts l) in
    let listed : AreListsByLink starts 65536 (lists_of c.as_slice.result.now) =
    subst (λ (lists : List (Vec ℕ Global)). AreListsByLink starts 65536 (lists_of lists)) (sym c.as_slice.ensures.value)
    (subst (λ (xs : List Started). AreListsByLink xs 65536 (lists_of c.in_ok-by_link.by_link.items)) value c.in_ok-by_link.ensures) in
    let frames : c.sums_of_link-sums.result.frames ≡ frames_on link starts = c.sums_of_link-sums.ensures.frames starts listed in
    let octets : c.sums_of_link-sums.result.octets ≡ octets_on link starts = c.sums_of_link-sums.ensures.octets starts listed in
    let below : link < 65536 = omega (arith, c.loop-link-test.true, c.links-link-end.type_inv) in
    let from : c.from.result ≡ link = c.from.ensures in
    let inside : c.from.result < length c.in_ok-most.most.items = omega (arith, below, from, c.in_ok-most.ensures.all) in
    let most : c.index.result.now ≡ most_on link starts =
    c.index.ensures ∙ get_or_default c.in_ok-most.most.items c.from.result c.index.result.now 0 inside ∙ ap (slice_index c.in_ok-most.most.items) from
    ∙ c.in_ok-most.ensures.most link below ∙ ap (most_on link) value in
    Puts-as _ (each_below line (link + 1))
    (one_line_more d starts link c.sums_of_link-sums.result.frames c.sums_of_link-sums.result.octets c.index.result.now frames octets most)
    (Puts-then (each_below line link) _ c.loop-link.invariant c.put_sums.ensures)

pub returns : goal.returns
returns g c =
    let d = c.args.domain.now in
    let starts = c.args.book.now.starts.items in
    let line : ℕ → List ℕ = λ l. line_of_fields (link_fields d starts l) in
    let all : c.loop-link.link ≡ length d.links = omega (arith, c.loop-link-test.false, c.loop-link.auto.link-end, c.links-link-end.ensures) in
    let lines = Puts-as (each_below line c.loop-link.link) (each_below line (length d.links)) (ap (each_below line) all) c.loop-link.invariant in
    let puts = Puts-then (line_of_fields link_header) (each_below line (length d.links)) c.put_header.ensures lines in
    let names = c.close-written.ensures.same ∙ puts.same ∙ c.new-writer.ensures.same in
    text-written c.close-written.result.now (links_text d (contents_of c.args.book.now)) c.written_text.result
    (ap (λ list. list.items) c.new-reported.ensures.writer ∙ c.new.ensures.items)
    c.new-writer.ensures.opens puts c.close-written.ensures.closes c.written_text.ensures.ok (search rules) (search rules)
