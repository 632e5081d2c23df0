mod Recorded
mod Listed
mod Called
