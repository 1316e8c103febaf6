pub mod Walls
