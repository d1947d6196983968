-- a text with a line feed at its end is whole lines
pub mod LastLine
