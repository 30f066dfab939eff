pub mod ByNumber
pub mod Lists
pub mod Results
