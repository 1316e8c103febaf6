-- What a thread sees, when two states agree on it, and that what it does goes by nothing else.
pub mod View
pub mod Agreeing
pub mod Secrecy
pub mod Others
pub mod Runs
pub mod Turns
