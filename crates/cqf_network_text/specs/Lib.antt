pub mod DomainMembers
pub mod StreamMembers
pub mod Plans
pub mod Networks
pub mod NetworkLaws
