-- one least bound, and bounds that fit
pub mod Bounds
-- layouts and claims that disagree
pub mod Agreeing
-- works that are done or refused
pub mod Acting
-- a refusal that is kept
pub mod Keeping
