pub mod DigitValues
pub mod LineEnds
pub mod LongRows
pub mod NamedRows
pub mod PiecesOf
pub mod ProgramsOf
pub mod RowsOf
pub mod SmallNumbers
