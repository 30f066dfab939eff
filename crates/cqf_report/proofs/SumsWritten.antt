-- The text of the sums by link, written from counts of frames and columns of octets.
use Rattle.std.proofs.Common.{◌≡◌, ℕ, ◌<◌, ◌++◌, List, inl, inr, sym, ap, ◌∙◌, length, fold, max, sum, get_or}
use Rattle.std.proofs.lemmas.Bool.{cases_lt}
use Rattle.cqf_lists.proofs.EachBelow.{same_below}
use Rattle.cqf_model.specs.OnLinks.{frames_on, octets_on}
use Rattle.cqf_laws_coverage.specs.Counted.{ColumnsReport, IsCounted}
use Rattle.cqf_laws_coverage.specs.InOneCycle.{most_on, octets_summed}
use Rattle.cqf_laws_coverage.specs.Judged.{ReportIsCounted, judged_of}
use Rattle.cqf_topology.specs.NodeNames.{name_of_link}
use Rattle.cqf_report.specs.Columns.{column_fields}
use Rattle.cqf_report.specs.LinkSums.{link_fields, link_header}
use Rattle.cqf_report.specs.SumsWritten.{ReportIsWritten}
use Rattle.cqf_report.specs.Written.{line_of_fields}
use Rattle.cqf_report.proofs.LinkLines.{same_sums}

-- the text is the one written from them
pub report_is_written : ReportIsCounted → ColumnsReport → ReportIsWritten
report_is_written counted write d entries offers background cycles book frames column accepted legal offered following ordered is sums =
    ap (λ (lines : List ℕ). line_of_fields link_header ++ lines)
    (same_below (λ link. line_of_fields (link_fields d book.starts link)) (λ link. line_of_fields (column_fields d frames column link)) (length d.links) line)
  where
    -- a link's sums
    counts : (link : ℕ) → IsCounted d cycles offers (judged_of d entries offers) book.starts link
    counts link = counted d entries offers background cycles book link accepted legal offered following ordered is

    -- its column
    cells : (link : ℕ) → link < length d.links → (cycle : ℕ) → get_or (column link) cycle 0 ≡ octets_summed link cycle book.starts
    cells link is_link cycle = elim (cases_lt cycle cycles) [
      | inl within ↦ sums.cells_are link cycle is_link within ∙ sym ((counts link).column cycle within)
      | inr past ↦ sums.none_past link cycle is_link past ∙ sym ((counts link).later cycle past)
    ]

    -- its line
    line : (link : ℕ) → link < length d.links → line_of_fields (link_fields d book.starts link) ≡ line_of_fields (column_fields d frames column link)
    line link is_link =
        let reported = write book.starts link (column link) (cells link is_link) in
        same_sums (name_of_link d link) (frames_on link book.starts) (frames link) (octets_on link book.starts) (sum (column link))
        (most_on link book.starts) (fold max 0 (column link)) ((counts link).frames ∙ sym (sums.frames_are link is_link)) (sym reported.octets)
        (sym reported.most)
