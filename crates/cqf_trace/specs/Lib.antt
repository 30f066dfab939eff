pub mod Traces
pub mod BridgeTraces
-- contracts of the inner functions
pub mod Reporting
