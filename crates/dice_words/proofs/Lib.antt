mod Accepting
mod Commands
mod Rows
