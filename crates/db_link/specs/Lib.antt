-- Links: the one by which a pair is searched for.
pub mod Order
