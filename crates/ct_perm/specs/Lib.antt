-- How this crate's enum names the forms of def_words.
pub mod Named
