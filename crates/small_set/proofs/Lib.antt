mod Distinct
mod Apart
