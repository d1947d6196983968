-- To prove: each value is of the kind and in the range that its rule asks for, and is read as what it says.
-- lists in a value, beside the vectors and maps that hold them
pub mod ListsOfValues
-- (a number of at most 16 digits has room in 64 bits, digit by digit)
pub mod RoomForDigits
-- what is found among tables, and the kind of item that each reads as
pub mod ItemsFromTables
