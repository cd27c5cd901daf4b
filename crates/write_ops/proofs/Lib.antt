pub mod FirstPlaces
pub mod Fitting
pub mod SetFits
pub mod CreateFits
pub mod PlanFits
mod Worked
