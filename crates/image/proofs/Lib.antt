pub mod Changes
pub mod Claimed
pub mod CrcStores
pub mod CrcWords
pub mod GoodImages
pub mod ImageTable
pub mod Places
