pub mod LinkNumbers
mod Cutting
mod InCycles
