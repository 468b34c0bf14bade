-- What the contracts of `with_capacities` cite beside the opening itself, which is that of `refinement`.
pub mod Lent
pub mod Answer
