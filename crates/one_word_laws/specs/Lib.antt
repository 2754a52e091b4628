-- One word changed, from const to `using` or `await using` (02, request 13).
-- The change, and the bounds.
pub mod Changed
