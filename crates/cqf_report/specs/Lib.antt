pub mod Records
pub mod Table
pub mod Arrivals
pub mod Written
pub mod Starts
pub mod Offers
pub mod Books
pub mod Faults
pub mod BackgroundFrames
pub mod TableLaws
pub mod HistoryText
pub mod LinkSums
pub mod Columns
pub mod SumsWritten
-- properties of the internal functions
pub mod CallTexts
pub mod OtherColumns
pub mod ByLink
