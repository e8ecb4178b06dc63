-- The faults that a new bitmap mends, the image with a new bitmap, and what may be lost with the old one.
pub mod Mendable
pub mod Validated
pub mod Cautions
pub mod Answer
pub mod Said
pub mod steps
