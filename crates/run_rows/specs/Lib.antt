-- A heap, the memory that it lies in, and a sweep.
pub mod Swept
