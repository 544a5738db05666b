mod Asks
mod Handed
