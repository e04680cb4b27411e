pub mod LayingOut
