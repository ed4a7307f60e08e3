-- one cable for each turbine, and the best of the lists that were tried
pub mod Choices
