-- what a call does to the streams that it is given
pub mod Effect
-- what a lender reads: what is so wherever `check` says yes
pub mod Yes
-- the words that the program is called with
pub mod Words
-- the items that the tree of a JSON text says
pub mod Json
-- the bytes that are a site, in lines or in JSON, and the fault of the bytes that are none
pub mod Bytes
-- what a printed plan is
pub mod Plan
-- the search of a plan, as a run of the search's core
pub mod Rounds
-- how each command may end
pub mod Ends
