pub mod Rising
mod Examples
