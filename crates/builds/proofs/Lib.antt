mod Growing
mod Answering
