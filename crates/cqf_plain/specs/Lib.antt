pub mod Run
pub mod Promise
pub mod Turns
pub mod Driven
pub mod Due
pub mod SoFar
-- contracts of the inner functions
pub mod Faults
pub mod Losing
