-- Known points, the worked example, each answer and each bound on both sides of its edge: cases of the rules, to be computed.
pub mod Samples
pub mod KnownPoints
pub mod WorkedExample
pub mod Edges
pub mod Refusals
pub mod Minima
pub mod Compacted
pub mod Editions
pub mod Conversions
