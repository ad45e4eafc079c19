-- Document 02's surface: samples with two coordinates, the refusals of its calls, and what they answer and write.
pub mod Points
pub mod PointLaws
pub mod Order
pub mod OrderLaws
pub mod Refusals
pub mod RefusalLaws
pub mod Surfaces
pub mod TriedLaws
pub mod SurfaceLaws
pub mod Limited
pub mod LimitedLaws
