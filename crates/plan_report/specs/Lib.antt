-- layouts that are reported
pub mod Reported
