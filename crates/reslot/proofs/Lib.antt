pub mod Reslot
