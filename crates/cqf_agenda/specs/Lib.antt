pub mod Links
pub mod Agenda
-- contracts of the inner functions
pub mod Picking
