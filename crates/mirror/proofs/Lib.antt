-- What rests on a definition that an edit of must-fail/ changes: the mirror image of bands.
pub mod BandLaws
