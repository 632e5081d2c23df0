pub mod Figures
pub mod Recordings
pub mod RowFigures
pub mod Lines
pub mod Accounted
pub mod Cases
