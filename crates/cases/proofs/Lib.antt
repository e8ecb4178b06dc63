-- Lemmas on the ends of a port in one value, and on a file whose header has a wrong checksum.
pub mod CaseEnds
pub mod SpoiledHeader
