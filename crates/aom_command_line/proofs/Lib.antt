mod Checking
mod Reading
mod Rules
