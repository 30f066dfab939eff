-- What the figures of a table's rows mean.
use Rattle.cqf_program_diff.specs.declared.figures.RowFigures.{RowFigures}
use Rattle.cqf_program_diff.specs.Figures.{FiguresText}

abbrev pub figures_text : RowFigures → FiguresText
figures_text figures = record { latencies = figures.latencies.items; loads = figures.loads.items }
