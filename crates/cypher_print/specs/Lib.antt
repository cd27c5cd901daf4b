pub mod Pieces
pub mod Printed
pub mod QuerySentences
pub mod QueryText
pub mod ReadBack
pub mod Sentences
