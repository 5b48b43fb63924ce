mod Powers
pub mod Decimals
pub mod Placing
pub mod Listings
pub mod Lengths
pub mod Printed
pub mod Cutting
pub mod Laws
pub mod Open
pub mod Examples
