mod Apart
mod Ends
mod Pairs
