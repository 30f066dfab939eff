pub mod Gates
pub mod Batch
pub mod PortRecord
pub mod BridgeState
pub mod Faults
pub mod Quiet
pub mod Receiving
pub mod Taking
pub mod Follows
pub mod Cycles
pub mod LongerRuns
pub mod NoFaults
pub mod Driven
pub mod Courses
pub mod CourseLaws
pub mod Verdicts
-- contracts of the inner functions
pub mod Sending
