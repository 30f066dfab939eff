-- What links carry, link by link.
use Rattle.std.specs.Prelude.{ℕ, List, [], map, slice_index_or}
use Rattle.cqf_laws_coverage.specs.declared.column.Column.{Column}

-- a link's frames, and its octets in each cycle; nothing for a number that is no link
abbrev pub frames_by : List Column → ℕ → ℕ
frames_by columns link = slice_index_or (map (λ (column : Column). column.frames) columns) link 0

abbrev pub octets_by : List Column → ℕ → List ℕ
octets_by columns link = slice_index_or (map (λ (column : Column). column.octets.items) columns) link []
