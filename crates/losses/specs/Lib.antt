-- Document 02's losses line by line (E12): the losses of the chosen degree, their total, and the score that is made of it.
pub mod Refusals
pub mod RefusalLaws
pub mod Losses
pub mod LossLaws
