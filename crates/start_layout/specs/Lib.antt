-- one cable ended elsewhere, and what that makes
pub mod Moves
-- straight cables, substation by substation, and the straight layout, turbine by turbine
pub mod Straight
-- layouts to begin with
pub mod Starting
-- what layouts cost at least that differ in where one cable ends
pub mod Floors
