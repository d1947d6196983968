-- To prove: pages and measurements are byte for byte what the definitions say, and sources have a total order.
-- A field that is put in a page leaves all other bytes, so what has no field is zero.
pub mod BytesBesideFields
pub mod EachInTurn
-- Byte j of an item's page; such a page has 4096 bytes.
pub mod PageBytesByPlace
-- Parts in two lists extend a measurement by one list after the other.
pub mod PieceByPiece
-- The order of sources is total, and sources that are equal in it are one.
pub mod OrderOfSources
