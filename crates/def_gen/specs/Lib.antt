pub mod Numbers
pub mod Description
pub mod Sources
