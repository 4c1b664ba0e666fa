mod Lines
mod Named
mod Names
