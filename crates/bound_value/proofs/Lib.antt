-- lawful weights, weight by weight
pub mod LawfulWeights
