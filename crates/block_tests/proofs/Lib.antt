pub mod RoundOfBlocks
pub mod BlocksBack
pub mod LetterEnds
