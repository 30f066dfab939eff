mod Steps
mod Held
mod Files
mod Own
mod Described
mod Alike
