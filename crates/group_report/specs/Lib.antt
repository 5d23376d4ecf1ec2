pub mod Participations
pub mod Reports
pub mod Minutes
