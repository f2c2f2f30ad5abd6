pub mod Dues
pub mod DueWorks
