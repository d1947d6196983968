-- To prove: a listing is replayed line by line, and the first line with a fault decides.
-- Lines are parted by newlines, and the last piece of a text is no line.
pub mod PiecesOfTexts
-- So the first line of a text decides, or the text comes to what the lines after it come to.
pub mod LineByLine
-- A listing of commands that a monitor takes comes to yes, line by line.
pub mod TrueListings
