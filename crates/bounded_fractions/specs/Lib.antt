-- the range of a fraction
pub mod Range
-- what a fraction stands for
pub mod Value
-- what a fraction that may be out of range stands for
pub mod Wide
