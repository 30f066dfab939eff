pub mod Beginning
pub mod Events
pub mod Parts
pub mod World
