pub mod UpgradePromises
