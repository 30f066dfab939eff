pub mod Cost
pub mod Edge
pub mod Heard
pub mod Alone
pub mod Run
pub mod Books
pub mod MainLaw
pub mod BookOfHistory
