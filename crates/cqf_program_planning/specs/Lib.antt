pub mod Judging
pub mod Orders
pub mod Choosing
pub mod TableText
pub mod PlanLaws
pub mod PlanOutput
pub mod ReadPlans
-- the contracts of inner functions
pub mod Steps
pub mod Trying
pub mod Searching
pub mod Writing
