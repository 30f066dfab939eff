mod Ordered
mod Sealed
mod Seats
mod Traced
