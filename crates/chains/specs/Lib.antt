pub mod Chains
pub mod Edges
pub mod Costs
