mod Indices
mod Marks
mod PageLines
mod Accounts
