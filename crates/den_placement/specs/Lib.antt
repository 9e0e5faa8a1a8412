-- Where a point goes among two pools, and the laws of it.
pub mod Pools
pub mod Placing
pub mod Laws
