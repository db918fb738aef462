mod Keeps
mod Patterns
mod Versions
