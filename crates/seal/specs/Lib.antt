pub mod Cards
pub mod Meaning
pub mod Opening
pub mod Parties
pub mod Promises
pub mod Rows
-- Lemmas, nothing to be believed: the proof of a trait's law may name the crate's specs/ and not its proofs/.
pub mod CardTags
pub mod Triples
pub mod Told
