mod Texts
mod Numbers
mod Stopping
mod Headings
mod Rows
mod Whole
