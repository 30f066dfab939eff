pub mod BookSorts
pub mod ThreeKeys
pub mod Adding
pub mod Posting
pub mod Whole
pub mod Copying
pub mod Agreeing
pub mod Alike
