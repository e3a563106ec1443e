pub mod BodiesBack
pub mod BodyBack
pub mod LabelsBack
pub mod NamesBack
pub mod WholeBody
