pub mod InRow
pub mod After
pub mod RowLength
