mod Numbers
mod Marking
mod Planning
