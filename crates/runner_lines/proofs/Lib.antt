mod Digits
mod Texts
