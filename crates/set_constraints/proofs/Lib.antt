pub mod ChainLemmas
pub mod PassLemmas
pub mod ReachLemmas
pub mod SolveLemmas
pub mod WaitLemmas
