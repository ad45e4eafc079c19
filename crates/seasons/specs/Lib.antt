-- Lists of calls on a season book, and what is claimed of them: a stake's replies are those of a book of its own, and a call on one stake leaves the others.
pub mod Calls
pub mod CallLaws
pub mod Claims
pub mod OrderLaws
