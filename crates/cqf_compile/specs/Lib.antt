pub mod Plan
pub mod BridgeGates
pub mod ConfigText
pub mod ConfigLines
pub mod WrittenGates
