-- items of another shape
pub mod Shapes
-- what items make of a site so far, and the first fault among them
pub mod Faults
-- how far a site is that items have given
pub mod Progress
