-- weights of turbines
pub mod Turbines
-- the lesser of two costs
pub mod Least
-- weights of turbines on the way, row by row
pub mod Weighing
