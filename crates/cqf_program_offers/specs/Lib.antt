pub mod OffersText
pub mod OffersOutput
pub mod Made
