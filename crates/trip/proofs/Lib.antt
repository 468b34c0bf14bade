-- Why a list of orders is what its single orders are.
pub mod NearNulls
pub mod Long
pub mod Steps
pub mod Laws
pub mod Trip
