-- A book by its traces, and its contents, cycle by cycle.
use Rattle.std.specs.Prelude.{ℕ}
use Rattle.cqf_model.specs.Book.{Contents}
use Rattle.cqf_model.specs.Domain.{Domain}
use Rattle.cqf_trace.specs.declared.traces.Traces.{Traces}
use Rattle.cqf_trace.specs.Traces.{reported_from}

-- traces of some cycles of a domain
pub record ByTraces : Type 0 where
  pub domain : Domain
  pub cycles : ℕ
  pub traces : Traces

-- the book of the traces
abbrev pub contents_written : ByTraces → Contents
contents_written book = reported_from book.domain book.cycles book.traces
