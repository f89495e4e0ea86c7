pub mod Boards
pub mod Bodies
pub mod Laws
pub mod Ledgers
pub mod Meaning
pub mod Numbers
pub mod Replies
pub mod Rules
-- Lemmas, nothing to be believed: the proof of a trait's law may name the crate's specs/ and not its proofs/.
pub mod BoardSteps
pub mod Guards
pub mod LedgerSteps
pub mod Pages
