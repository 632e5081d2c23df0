pub mod Segs
