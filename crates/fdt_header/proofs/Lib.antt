-- What a result says that comes after a check.
pub mod Checks
-- The header is found where it is spelled, and nowhere else.
pub mod HeaderIsSpelled
