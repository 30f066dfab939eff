pub mod Rounds
pub mod EntryTests
pub mod OpenSpans
pub mod Intervals
pub mod ReadLines
pub mod Written
pub mod RoundTrip
mod InSpans
mod SpanPasses
mod MadeSpans
