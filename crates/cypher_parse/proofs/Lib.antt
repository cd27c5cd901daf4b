pub mod AtLimit
pub mod Deeper
pub mod Dependent
pub mod Depth
pub mod Exact
pub mod ExactClauses
pub mod ExactPatterns
pub mod ExactProjections
pub mod ExactQueries
pub mod Expressions
pub mod Levels
pub mod NameAlone
pub mod Opening
pub mod Reading
pub mod Sets
pub mod Spans
pub mod Stages
pub mod Table
pub mod Tied
pub mod Turns
pub mod Unique
mod Worked
mod WorkedTexts
