-- The mirror image of the program's replies. The laws of replies and calls stand here, since they rest on a definition that an edit of must-fail/ changes.
pub mod ReplyLaws
pub mod ReadLaws
pub mod SurfaceLaws
pub mod GroupLaws
pub mod CallLaws
pub mod Image
pub mod Strays
pub mod Groups
pub mod Carried
