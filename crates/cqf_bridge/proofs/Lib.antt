mod Counting
mod Frames
mod GateIndices
mod KeptGates
mod After
mod Bridges
mod Columns
pub mod Coming
mod Handing
pub mod InOrder
mod MadeBatch
mod PutGates
mod Receives
mod Resting
pub mod OfferedRuns
mod RunCycle
mod Sends
mod Taking
mod TakenCycle
mod PolicedVerdicts
mod Beginning
mod LinkLists
mod SentPorts
mod SentCycles
mod Anew
mod TakenCycles
mod Losses
mod OwnPages
mod SameFrames
mod Courses
mod Going
mod Paged
