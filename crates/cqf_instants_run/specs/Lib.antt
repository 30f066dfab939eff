pub mod Begun
pub mod Coverage
pub mod Laid
pub mod Entered
pub mod HistoryStarts
pub mod Passes
pub mod Columns
pub mod Drops
pub mod Parts
pub mod Feeding
pub mod Sending
pub mod BackgroundStarts
pub mod Taping
-- contracts of the inner functions
pub mod Frames
