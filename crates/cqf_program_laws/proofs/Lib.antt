pub mod Scripts
pub mod Legal
pub mod Deadlines
pub mod Judged
pub mod PlannedRows
pub mod InPlan
pub mod Promised
pub mod Loosely
pub mod FromTalkers
mod Firsts
mod Admitted
mod Balance
mod RowLaws
mod EachPath
mod EachOffer
mod EachRow
mod Bounded
mod FewCalls
mod Readers
mod ReadNetworks
mod MayRun
mod PlanTexts
mod JudgedFrom
mod Outputs
mod Repeated
