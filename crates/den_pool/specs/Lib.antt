-- A pool of micro-clusters: what is seen of it, who stays when it is pruned, the trial of its nearest.
pub mod Held
pub mod Tried
pub mod Laws
