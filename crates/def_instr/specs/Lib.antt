pub mod Reading
pub mod Results
pub mod Shapes
pub mod Table
