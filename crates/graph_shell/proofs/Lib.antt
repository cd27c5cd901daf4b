mod Answering
mod Endings
mod Places
mod SoFar
mod Turns
mod Worked
