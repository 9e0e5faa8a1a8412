-- A point among the micro-clusters: who is near, what the scan finds, how it joins, and the laws of these.
pub mod Near
pub mod Placing
pub mod Scanned
pub mod Laws
