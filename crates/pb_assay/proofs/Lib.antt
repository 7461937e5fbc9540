mod BalanceLemmas
pub mod CountLemmas
