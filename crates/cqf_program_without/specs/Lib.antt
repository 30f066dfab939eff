pub mod Links
pub mod Streams
pub mod Tables
pub mod Output
pub mod OutLaws
