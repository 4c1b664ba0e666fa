mod Counts
mod Laws
mod Writes
mod Numbers
