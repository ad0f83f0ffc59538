mod Cells
mod Columns
mod Joins
mod Padding
mod Walks
mod Words
