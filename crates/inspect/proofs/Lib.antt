mod Lines
mod Eight
