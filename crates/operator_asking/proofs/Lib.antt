mod Asks
mod Bytes
mod Waits
