mod Begins
mod Lining
mod Numbers
mod Placed
mod Shown
