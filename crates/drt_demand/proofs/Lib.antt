pub mod WalkLabels
pub mod Comparable
