-- what a call that reads lines of a document does
pub mod Reading
-- what a reader of items holds, and what it does
pub mod Items
-- cable lines, and the cables that they name
pub mod Cables
