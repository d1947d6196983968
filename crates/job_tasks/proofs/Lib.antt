-- and a row of a table's digests is the row of these pages, so the launch chains to its own value
pub mod RowsOfOwnPages
-- chains side by side are their own launches'
pub mod ChainsInPlaces
