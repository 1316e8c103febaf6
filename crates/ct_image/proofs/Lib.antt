pub mod Small
pub mod Answered
pub mod Spanned
pub mod Asked
pub mod Adding
pub mod Firsts
pub mod Found
