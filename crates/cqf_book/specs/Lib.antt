pub mod BookOrder
pub mod Faults
pub mod Pages
pub mod Shares
pub mod Totals
-- for the contracts of inner functions
pub mod Whole
