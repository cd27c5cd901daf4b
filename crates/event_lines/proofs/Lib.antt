mod Cuts
mod Integers
mod JsonAgain
mod JsonTexts
mod Lists
mod ManyWords
mod Names
mod Numbers
mod Options
mod Pieces
mod Pushed
pub mod Read
mod ReadWords
mod Rolled
mod Spelled
mod Whites
mod WordsAgain
mod WorkedLines
