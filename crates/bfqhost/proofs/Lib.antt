pub mod Payloads
