pub mod LawsHold
