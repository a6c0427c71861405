pub mod Tags
mod Laws
mod Phrases
