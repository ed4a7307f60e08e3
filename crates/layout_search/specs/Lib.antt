-- cables whose numbers are of a site
pub mod Named
