pub mod Alone
pub mod Below
pub mod Chains
pub mod Separators
pub mod NeverLost
pub mod Nearing
pub mod Running
pub mod Shortening
