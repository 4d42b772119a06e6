pub mod ExactBlocks
