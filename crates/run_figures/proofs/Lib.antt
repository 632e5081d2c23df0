mod Cut
mod Reading
mod Counting
mod Writing
mod Printing
