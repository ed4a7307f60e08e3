-- every legal layout has a choice of one end for each turbine that is as good
pub mod Completeness
-- the best of the lists that were tried
pub mod Best
