pub mod TxList
pub mod StreamGate
pub mod TxText
pub mod StreamText
pub mod GateListText
pub mod Faults
pub mod ReservedSpans
pub mod SpanLaws
