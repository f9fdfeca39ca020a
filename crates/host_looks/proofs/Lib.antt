pub mod SameSeats
