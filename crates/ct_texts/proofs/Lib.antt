pub mod Numbers
mod Digits
