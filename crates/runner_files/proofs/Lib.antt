mod Built
mod Turning
