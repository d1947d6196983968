-- What loops, fields and views keep. No promise of a public call is made of it.
pub mod NameRuns
pub mod TokenViews
pub mod OpenNodes
pub mod EditViews
pub mod MemoryViews
pub mod NameTables
pub mod OutputViews
