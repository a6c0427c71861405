mod Printing
mod Taking
mod ByBuffers
mod AsRun
