-- Keys that are sorted, and lose their repeats, rise.
pub mod SortedKeysOnce
