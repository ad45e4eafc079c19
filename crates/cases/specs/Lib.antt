-- Document 01's T1 to T12: what they claim, what their samples solve to and score, and the proof.
pub mod Cases
pub mod Solutions
pub mod CaseLaws
pub mod Thirty
pub mod ThirtyLaws
