-- what the writers of a document are given, and the text of a layout
pub mod Written
