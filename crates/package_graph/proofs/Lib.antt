pub mod Joined
pub mod Positions
pub mod Members
pub mod PackageRows
pub mod LeastNames
