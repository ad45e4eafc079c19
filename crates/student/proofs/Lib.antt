-- What rests on a definition that an edit of must-fail/ changes: laws of bounds by area, and that no other entries pass.
pub mod AreaLaws
pub mod Only
