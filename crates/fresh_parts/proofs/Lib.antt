mod Repeating
mod Making
