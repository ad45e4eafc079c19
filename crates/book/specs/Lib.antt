-- The calls that change a book: their refusals, what they answer and leave, and many adds.
pub mod Refusals
pub mod RefusalLaws
pub mod Calls
pub mod CallLaws
pub mod Many
pub mod ManyLaws
pub mod Frames
pub mod Lines
pub mod Window
pub mod WindowLaws
