mod Going
pub mod Handing
mod LearnedRows
mod Learning
mod LettingGo
mod New
mod NewRows
mod Offers
mod Sends
pub mod Sources
mod TableTaken
mod TakenSegments
mod Tidy
