pub mod QuotientLaws
mod SearchLaws
pub mod RootLaws
pub mod BlockLaws
pub mod RingLaws
pub mod Ring
pub mod Order
pub mod Lists
pub mod Sums
pub mod PartialSums
pub mod Schwarz
