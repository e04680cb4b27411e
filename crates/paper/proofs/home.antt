pub mod Below
pub mod Edged
pub mod OneHome
pub mod GoneHome
pub mod HomeHeld
pub mod HomeFree
pub mod BackHome
