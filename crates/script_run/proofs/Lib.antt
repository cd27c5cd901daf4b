mod Pasts
mod Endings
