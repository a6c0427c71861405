pub mod BufferRows
