pub mod PipeRule
pub mod PipeEnds
pub mod Rows
pub mod Workers
pub mod Stops
pub mod Commands
pub mod Handing
pub mod GivingUp
-- definitions used by the contracts of inner functions
pub mod Stepping
