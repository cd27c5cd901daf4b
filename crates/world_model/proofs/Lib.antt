pub mod Objects
pub mod Folds
pub mod Txns
pub mod Lists
pub mod Begins
pub mod Rivals
pub mod ObjectViews
pub mod Searches
pub mod Views
pub mod Writes
pub mod Commits
pub mod EdgeLists
pub mod GraphOrder
pub mod Ends
pub mod Coherence
pub mod Order
pub mod Histories
pub mod Replies
pub mod Effects
pub mod Undo
pub mod Marks
pub mod Parted
pub mod Growing
pub mod Pieced
pub mod Carried
pub mod Invisible
pub mod Answered
pub mod OpenUndo
pub mod Sums
pub mod Counted
pub mod Copies
pub mod Staying
pub mod Opened
pub mod Sent
mod Worked
mod Network
mod WorkedGraphs
mod WorkedSteps
mod Gaps
mod WorkedWrites
mod WorkedReads
mod WorkedCounts
