mod Eachs
mod Lowers
mod Orders
mod TaskSearches
