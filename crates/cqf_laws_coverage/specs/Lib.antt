pub mod InOneCycle
pub mod Counted
pub mod Rows
pub mod Judged
pub mod Columns
pub mod Reported
