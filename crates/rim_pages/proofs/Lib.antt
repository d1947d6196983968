-- To prove: the measured pages of the launches that are accepted, each once, in the order of their keys
pub mod DifferentPages
