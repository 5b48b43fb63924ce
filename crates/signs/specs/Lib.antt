pub mod Lists
pub mod Number
pub mod Sign
pub mod Grid
pub mod Truth
pub mod Case
pub mod Examples
