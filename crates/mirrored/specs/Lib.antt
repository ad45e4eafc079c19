-- Document 02's mirror image: two lists of calls alike but for the sign of every y.
pub mod Samples
pub mod SampleLaws
pub mod Replies
pub mod Frames
pub mod FrameLaws
pub mod Calls
pub mod Image
pub mod Groups
pub mod Carried
pub mod Flipped
pub mod TextLaws
pub mod FlippedLaws
pub mod OldRule
pub mod OldRuleLaws
