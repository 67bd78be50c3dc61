-- Where a reader starts: the three demands, and what is said of batches, of delivered caches and of typed lines, of what the calls were lent, answered and
-- left, by their contracts alone.
pub mod Demand1
pub mod Demand2
pub mod Demand3
pub mod SixStates
pub mod Trucks
pub mod Delivered
pub mod Typed
