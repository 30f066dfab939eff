mod BranchLemmas
mod FaultLemmas
mod NodeLemmas
mod PartLemmas
mod SumLemmas
mod TreeLemmas
pub mod ActiveCycleLemmas
pub mod CostLemmas
pub mod Entered
pub mod Figures
pub mod Found
pub mod GrantLemmas
pub mod Guards
pub mod HeldNumbers
pub mod Left
pub mod LetGo
pub mod Lists
pub mod Logging
pub mod MappedRows
pub mod Most
pub mod Paced
pub mod Ring
pub mod RunLemmas
pub mod Running
pub mod SharedRows
pub mod StateCalls
pub mod Streams
pub mod TableLemmas
pub mod Tabled
pub mod Taken
pub mod Reported
pub mod Weighed
pub mod Whole
pub mod Withdrawing
mod OrderLemmas
mod NameIndices
mod ReadLines
mod Words
mod Few
mod ByLine
mod SpelledApart
