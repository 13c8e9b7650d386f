pub mod Unflat
