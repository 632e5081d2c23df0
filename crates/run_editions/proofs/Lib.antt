mod Putting
mod Long
mod Items
