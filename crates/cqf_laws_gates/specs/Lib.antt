pub mod InnerGates
pub mod LenientLaws
