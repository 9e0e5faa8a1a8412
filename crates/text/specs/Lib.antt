-- Text that grows piece by piece, numbers in decimal digits, text in a lent slice; what follows is in Laws.
pub mod Ascii
pub mod Text
pub mod Decimal
pub mod Refusal
pub mod Lent
pub mod Laws
