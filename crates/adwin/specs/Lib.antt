-- Document 01, Drift: the window as definitions (settings, buckets, cuts, its update and its history), and laws of them; others stand in proofs/Laws.
pub mod Settings
pub mod Buckets
pub mod Cut
pub mod Window
pub mod View
pub mod History
pub mod Inside
pub mod Laws
