-- writers of numbered items
pub mod Numbering
-- the lines of a report, and its parts
pub mod Lines
-- legal layouts can be reported
pub mod Legal
