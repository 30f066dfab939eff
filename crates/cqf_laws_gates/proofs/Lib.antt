pub mod Verdicts
pub mod Shorter
pub mod Past
pub mod Redundant
pub mod SomeGates
pub mod Books
