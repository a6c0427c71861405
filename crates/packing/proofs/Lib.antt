mod Decimals
mod Bytes
