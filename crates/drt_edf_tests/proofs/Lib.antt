mod Small
mod Fronts
