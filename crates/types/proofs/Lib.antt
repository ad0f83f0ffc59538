mod Columns
mod Inputs
mod Scopes
mod Sensitivities
