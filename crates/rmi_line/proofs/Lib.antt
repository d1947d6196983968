-- To prove: each command is printed as its line, and no two commands have the same line.
-- A line grows word by word.
pub mod LineWordByWord
-- No word has a space or a newline, so the spaces of a line part its words;
pub mod SpacesPartWords
-- so the words come back from the line, the command from its words, and two commands with one line are the same.
pub mod OneLineOneCommand
-- To prove: a line is read as the command that it spells.
-- Each pair of digits spells the byte at its place.
pub mod HexPairs
-- A short number is read digit by digit.
pub mod ShortDecimal
-- Words are taken from the front of a line.
pub mod TakenWords
-- A line is read as a command of its name, if that command's words are all of it.
pub mod ReadNamed
-- The first and the last line are spelled and read word by word too.
pub mod EndsWordByWord
