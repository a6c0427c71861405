pub mod OneByOne
