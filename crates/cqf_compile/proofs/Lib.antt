pub mod Pieces
pub mod ConfigPieces
pub mod Ends
pub mod Bridges
pub mod Paces
mod Written
