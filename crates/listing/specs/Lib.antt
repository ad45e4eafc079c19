-- Text that is printed: writing it into lent memory, and the listing of `stakebook`.
pub mod Text
pub mod TextLaws
pub mod Writing
pub mod WritingLaws
pub mod Listing
pub mod ListingLaws
