mod LineText
mod LineRuns
mod LineTables
mod ReportOutputs
pub mod Passed
pub mod ByBook
mod PassageLines
mod Lines
mod Fates
mod CallsWell
mod RefusedInLogs
pub mod Well
pub mod Arrived
pub mod Listeners
mod Once
mod Planned
mod Passing
mod Later
pub mod Judged
mod Written
mod OfCycles
mod Room
pub mod OneMore
mod Counted
mod KeptSlots
pub mod WrittenStarts
mod InOrder
mod FollowedOn
pub mod AfterOffers
mod SlotsWrite
pub mod Greatest
