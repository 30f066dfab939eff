mod WordLemmas
mod Lines
mod VariableLines
mod Apart
mod Naming
mod Functions
mod CallLemmas
mod EnvLemmas
mod Streams
mod NextKept
pub mod LeavingRows
pub mod NotedRows
mod Rounds
mod Ready
mod Owned
