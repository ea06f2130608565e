-- Laws of what the code computes of a row.
pub mod MaskLaws
pub mod AllowedLaws
pub mod SoundLaws
pub mod PassLaws
