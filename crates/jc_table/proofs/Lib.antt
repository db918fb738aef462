mod Numbers
mod OpenPods
mod PageFacts
mod PodRows
pub mod ResultFacts
pub mod RowFacts
