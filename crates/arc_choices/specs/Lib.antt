-- the least that a choice leaves of its cost
pub mod Least
