mod Copy
mod Decimal
mod Lines
mod Inputs
