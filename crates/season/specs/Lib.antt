-- The season book: what its calls that change it answer and leave.
pub mod Changes
pub mod ChangeLaws
