pub mod Worked
pub mod Impostors
pub mod Careful
pub mod OldWords
