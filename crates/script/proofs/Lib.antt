mod Cuts
mod Parts
mod Steps
mod Words
