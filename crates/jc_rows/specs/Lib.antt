pub mod PodCountRows
pub mod ManifestRows
pub mod Templates
pub mod NameForms
