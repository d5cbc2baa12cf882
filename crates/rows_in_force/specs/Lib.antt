pub mod Origins
pub mod StoreRows
pub mod Steps
