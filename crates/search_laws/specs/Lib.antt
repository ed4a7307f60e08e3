-- what holds of every state that a search reaches
pub mod Cores
