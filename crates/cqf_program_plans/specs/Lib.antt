-- one folder per command
pub mod Latency
pub mod Load
pub mod Compile
pub mod Port
pub mod EndNames
pub mod Adding
pub mod Reserving
pub mod Edges
pub mod NetworkRequests
