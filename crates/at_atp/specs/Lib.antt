pub mod Askings
pub mod HandUps
pub mod Lawfully
pub mod Network
pub mod Transactions
