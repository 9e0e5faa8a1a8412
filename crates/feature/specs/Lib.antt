-- Features of clusters: distance, fading, the push of a point, and their laws.
pub mod Distance
pub mod Fade
pub mod Feature
pub mod Laws
