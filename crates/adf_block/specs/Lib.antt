-- An image as a list of bytes: the values of fields, what a change leaves untouched, and which bytes are an image.
pub mod Image
pub mod Fields
pub mod Whole
pub mod Frame
pub mod Size
pub mod Boot
pub mod Lending
pub mod HasBoot
pub mod BootCode
pub mod BootText
