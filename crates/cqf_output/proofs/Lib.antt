mod LineLemmas
pub mod EdgeLemmas
pub mod WriterLemmas
