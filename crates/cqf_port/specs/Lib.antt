pub mod PortState
pub mod Progress
pub mod Spans
pub mod NextStart
-- for the contracts of inner functions
pub mod Asked
pub mod Quiet
