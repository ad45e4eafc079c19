-- What the proofs of the season's calls share.
pub mod Pieces
