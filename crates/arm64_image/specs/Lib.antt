pub mod ImageHeader
