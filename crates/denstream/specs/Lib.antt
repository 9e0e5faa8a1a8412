-- What the contracts here cite: the view, and what only private ones do.
pub mod View
pub mod Inside
