pub mod PagedBooks
pub mod AccountWritten
pub mod ThreadsOutput
