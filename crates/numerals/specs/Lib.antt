pub mod Numeral
pub mod Piece
pub mod Line
