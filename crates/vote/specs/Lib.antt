pub mod Claims
pub mod Parts
pub mod AnswerVotes
pub mod CommittedVotes
pub mod SheetVotes
pub mod Counting
