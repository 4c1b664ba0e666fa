mod Slotted
mod Lists
mod Slots
mod There
mod Counts
mod Entries
mod Worked
