mod Measured
