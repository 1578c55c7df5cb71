pub mod Registers
pub mod Roles
pub mod Tests
pub mod Goes
