pub mod ReadAllocations
pub mod Offers
