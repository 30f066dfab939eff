pub mod Bits
pub mod Chunks
pub mod Masked
pub mod OpenRuns
