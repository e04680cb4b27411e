pub mod Homing
