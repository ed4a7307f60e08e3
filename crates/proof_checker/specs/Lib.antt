-- what a checker is seen as
pub mod State
-- what an act of a work asks for
pub mod Acts
-- what a document says, as it is answered
pub mod Answers
