-- What the proofs of reports share.
pub mod Reporting
