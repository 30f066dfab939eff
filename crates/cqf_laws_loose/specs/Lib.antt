pub mod LooseRuns
pub mod LooseLaws
pub mod LagLaws
