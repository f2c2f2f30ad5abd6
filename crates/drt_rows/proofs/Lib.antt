pub mod Sets
pub mod SetRows
mod NotationRows
mod LegalRows
mod MachineRows
pub mod SchedulableRows
mod WalkRows
mod UtilisationRows
mod HorizonRows
mod RequestRows
pub mod PotentialRows
mod FrontRows
mod NeedsRows
mod TreeRows
mod StateRows
mod ShortRows
mod FrontierRows
mod GreatestRows
mod ResponseRows
mod GeneratedRows
