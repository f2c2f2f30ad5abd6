mod Ratings
mod Fronts
