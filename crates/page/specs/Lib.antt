pub mod Beginning
pub mod Claims
pub mod Page
