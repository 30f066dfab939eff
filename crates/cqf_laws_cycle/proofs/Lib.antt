pub mod GateLists
pub mod OnePorts
pub mod LatePorts
pub mod Besides
pub mod SentAlone
pub mod PageParts
pub mod Closed
pub mod PortCycles
pub mod Continued
pub mod Batches
pub mod Gathering
pub mod Steps
pub mod ByFrame
mod CameToBridge
mod CameToPort
