pub mod Arrays
pub mod Text
pub mod Output
pub mod Items
