-- words, and the commands that they ask for
pub mod Asked
-- from how a command ends to what is promised of it
pub mod Headlines
-- notes whose push failed
pub mod Failing
-- from what a command gives, and what is noted of its fault, to how it ends
pub mod Endings
-- layouts that are read behind a site
pub mod Layouts
-- sites with layouts that are read, and refusals behind a site
pub mod Judged
-- the points that a broken rule names
pub mod Broken
-- the text of a plan from its parts, and what its writers ask for
pub mod Plans
-- sites that are read, and what is read in their place
pub mod Sites
-- documents that are accepted, and refusals of what is none
pub mod Documents
-- the summary line of a drill is what stands before the verdict, and the verdict line
pub mod Summary
-- the summary of what was found for a generated site
pub mod Drills
