pub mod KnownBlocks
pub mod MessageHashes
pub mod DescriptorHashes
