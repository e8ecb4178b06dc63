-- The bitmap blocks of an image, what stays when only the bitmap changes, and the image with a new bitmap.
pub mod Common
pub mod PageFaults
pub mod PageRoles
pub mod BesidePages
pub mod Carry
pub mod CarryFaults
pub mod Stay
pub mod Widened
pub mod Anew
pub mod FreedHeaders
pub mod NoCaution
pub mod KeptLongs
pub mod Counted
pub mod Passed
pub mod SettlingPages
pub mod Renewed
