-- A bucket, and a cut between buckets.
pub mod Bucket
pub mod Cut
