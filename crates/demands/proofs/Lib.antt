-- The three theorems, `demand1`, `demand2`, `demand3`, that of typed lines, `typed`, that of a truck's notes in one call, `trucks`, and
-- that of delivered caches, `delivered`.
pub mod Demand1Laws
pub mod Demand2Laws
pub mod CheckedLaws
pub mod AuditLaws
pub mod Demand3Laws
pub mod SixLaws
pub mod TruckLaws
pub mod DeliveredLaws
pub mod TypedLaws
