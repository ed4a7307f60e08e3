-- inputs in lines and in JSON, by their first byte
pub mod Forms
