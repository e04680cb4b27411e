pub mod AllHeld
