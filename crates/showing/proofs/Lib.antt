mod Passing
mod Segments
