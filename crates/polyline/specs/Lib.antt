pub mod Polyline
