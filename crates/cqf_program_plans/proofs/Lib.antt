mod PortLemmas
pub mod CompileLemmas
mod Planned
mod Listed
mod Fits
mod PlanFits
mod HeldMost
pub mod Loading
pub mod GrantedPlans
pub mod LookedOver
pub mod Found
mod CostsByActiveCycle
mod LatencyLines
mod AccessLoads
mod LatencyFromTalker
mod Steps
mod LoadSteps
pub mod EdgeGates
mod GreatestFirst
