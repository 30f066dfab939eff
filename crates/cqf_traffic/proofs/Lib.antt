mod Arranging
mod Keeping
mod Putting
